use Rattle.std.proofs.Common.{◌≡◌, ◌+◌, arith}
use Rattle.crq_sim.proofs.WindowLemmas.{tracks_same, tracks_next, few_tracked}
use Rattle.crq_sim.proofs.serial_run.Window.pass.Goals as goal
use Rattle.crq_sim.proofs.serial_run.Window.pass.Goals.{then-from-self, else-from-self}

pub overflow_add-self : goal.overflow_add-self
overflow_add-self c = let few = few_tracked _ _ _ _ c.requires.tracks in let n = c.requires.few in omega arith

pub returns-clause-tracks : goal.returns-clause-tracks
returns-clause-tracks c =
    let m = c.args.model.now in
    let old = c.args.self.now in
    let e = c.requires.next.0 in
    let time : e.time ≡ c.args.time = c.requires.next.2 in
    elim c.if-from-self.branch [
      | then-from-self w ↦ (let edge : e.time + m.lookahead ≡ w.from-then-from-self.result + w.from-then-from-self-2.result = (let a = w.from-then-from-self.ensures in let b = w.from-then-from-self-2.ensures in let d = w.lookahead.ensures in omega arith) in
          let next = tracks_next m old.events old.number old.edge e c.is_model.ensures c.requires.next.1 (let a = c.from.ensures in let b = w.if-from-self.true in omega arith) c.requires.tracks in
          rw (w.self-is, ← edge) next)
      | else-from-self w ↦ rw w.self-is (tracks_same m old.events old.number old.edge e c.requires.next.1 (let a = c.from.ensures in let b = w.if-from-self.false in omega arith) c.requires.tracks)
    ]
