use Rattle.std.proofs.Common.{[], sym, subst}
use Rattle.atomic_table.specs.Table.{opening}
use Rattle.crq_rule.specs.declared.layout.Start.{Start}
use Rattle.crq_rule.specs.declared.view.View.{View}
use Rattle.crq_rule.specs.Rule.{Stands, first_view}
use Rattle.crq_rule.proofs.Openings.{opens}
use Rattle.crq_rule.proofs.opening.open_table.Goals as goal

pub of_words-requires : goal.of_words-requires
of_words-requires c = let start : Start = record { layout = c.args.layout.now; first = c.args.first; moves = c.args.moves } in
    subst (λ ws. Stands start (opening {S = Unit {0}} {V = View} ws [] (first_view start))) (sym c.as_slice.ensures.value) (opens start _ c.requires c.in_ok-words.ensures)
