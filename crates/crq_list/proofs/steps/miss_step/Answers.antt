use Rattle.std.proofs.Common.{inl, refl, sym, subst}
use Rattle.crq_base.specs.declared.kinds.StepKind.TheVariants.{Miss}
use Rattle.crq_base.specs.Words.{IsControlWord}
use Rattle.crq_base.proofs.WordLaws.{control_below}
use Rattle.crq_rule.specs.ListKinds.{misses}
use Rattle.crq_rule.specs.Moves.{MovesBy, FoundControl}
use Rattle.crq_rule.proofs.ListSteps.{miss_moves}
use Rattle.crq_rows.specs.Passes.{caller, StaysAside}
use Rattle.crq_list.proofs.StepLaws.{controlled}
use Rattle.crq_list.proofs.steps.miss_step.Goals as goal

pub load_turning-found-requires-clause-aside : goal.load_turning-found-requires-clause-aside
load_turning-found-requires-clause-aside c r p q _ h = subst (StaysAside p) h.after record { hand = refl; debts = inl refl }

pub load_turning-found-requires-clause-moves : goal.load_turning-found-requires-clause-moves
load_turning-found-requires-clause-moves c = let table = c.args.table.now in let p = caller table c.args.pass.now in
    subst (λ w. MovesBy Miss table.start p w (λ n. n) (FoundControl (misses c.args.limit))) (sym c.control-word.ensures) (miss_moves table.start p c.args.limit c.requires.may)

pub from_word-requires : goal.from_word-requires
from_word-requires c = let w = c.load_turning-found.ensures.after.1 in subst IsControlWord w.word (control_below w.control w.is_control)

pub returns : goal.returns
returns c = let control = c.from_word.ensures in
    controlled Miss c.args.table.now c.args.pass.now c.load_turning-found.new.pass (misses c.args.limit) c.control-word.result c.load_turning-found.result c.from_word.result c.requires.of c.control-word.ensures control.0 control.1 c.load_turning-found.ensures
