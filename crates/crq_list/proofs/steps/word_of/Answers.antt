use Rattle.std.proofs.Common.{subst}
use Rattle.crq_rule.specs.Places.{IsPlace}
use Rattle.crq_rule.specs.Ranks.{cell_place}
use Rattle.crq_list.specs.Spots.{cell}
use Rattle.crq_list.proofs.steps.word_of.Goals as goal

pub head-requires : goal.head-requires
head-requires c = subst (λ z. IsPlace c.args.table.now.start.layout (cell_place (cell z))) c.in-Head.is c.requires
