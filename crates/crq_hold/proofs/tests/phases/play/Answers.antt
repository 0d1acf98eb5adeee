use Rattle.std.proofs.Common.{◌≡◌, ℕ, List, ◌++◌, take, drop, length, sym, ap, ◌∙◌, subst}
use Rattle.std.proofs.Math.Seq.{take-append_seam}
use Rattle.crq_rule.specs.declared.pass.Seating.{Seating}
use Rattle.crq_hold.specs.declared.worker.Worker.{Worker}
use Rattle.crq_hold.specs.Teams.{AreFree, AreSettled, AreWorkers}
use Rattle.crq_hold.proofs.tests.phases.play.Goals as goal

-- what a slice wrote over the whole of a list
written : (n : ℕ) (new old : List Worker) → n ≡ length new → new ≡ take n (new ++ drop (length new) old)
written n new old is = sym (ap (λ n. take n (new ++ drop (length new) old)) is ∙ take-append_seam new (drop (length new) old))

-- as many places are free
free_for : (places : List Seating) (old new : List Worker) → length old ≡ length new → (length places ≡ length old) × AreFree (length old) places → (length places ≡ length new) × AreFree (length new) places
free_for places old new is = subst (λ n. (length places ≡ n) × AreFree n places) is

pub put_all-requires : goal.put_all-requires
put_all-requires g c = (c.type_bounds.sync-R, (subst (AreWorkers c.args.queue.now.table) (sym c.as_mut_slice.ensures.value) c.requires.workers, c.requires.start))

pub regroup-requires : goal.regroup-requires
regroup-requires g c = let new = c.put_all.new.workers in let e = c.put_all.ensures in
    let is = written c.args.made.1.len new c.args.made.1.items (sym c.as_mut_slice.ensures.len ∙ sym c.put_all.auto.workers) in record {
      workers = subst (AreWorkers c.args.queue.now.table) is e.workers;
      settled = subst AreSettled is e.settled;
      free = free_for c.args.made.0.places.items c.args.made.1.items _ (c.requires.workers.count ∙ (sym e.workers.count ∙ ap length is)) c.requires.free;
    }

pub take_all-requires : goal.take_all-requires
take_all-requires g c = (c.type_bounds.sync-R, subst (AreWorkers c.args.queue.now.table) (sym c.as_mut_slice-workers_now.ensures.value) c.in_ok-places.ensures.workers)

pub regroup-requires-2 : goal.regroup-requires-2
regroup-requires-2 g c = let new = c.take_all.new.workers in let e = c.take_all.ensures in let r = c.in_ok-places.ensures in
    let is = written c.in_ok-places.workers.len new c.in_ok-places.workers.items (sym c.as_mut_slice-workers_now.ensures.len ∙ sym c.take_all.auto.workers) in record {
      workers = subst (AreWorkers c.args.queue.now.table) is e.workers;
      settled = subst AreSettled is e.settled;
      free = free_for c.in_ok-places.places.places.items c.in_ok-places.workers.items _ (r.workers.count ∙ (sym e.workers.count ∙ ap length is)) r.free;
    }

pub returns : goal.returns
returns g c = c.regroup-2.ensures
