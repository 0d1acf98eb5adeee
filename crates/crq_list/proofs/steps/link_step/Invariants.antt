use Rattle.crq_base.specs.declared.kinds.StepKind.TheVariants.{Link}
use Rattle.crq_base.specs.Words.{link_word}
use Rattle.crq_rule.specs.Moves.{wins, quiet}
use Rattle.crq_list.proofs.StepLaws.{links_found}
use Rattle.crq_list.proofs.steps.link_step.Given as goal

abbrev pub ghosts-exchange_seated : goal.ghosts-exchange_seated
ghosts-exchange_seated a = record { kind = Link; change = wins (link_word a._said.now.0) (links_found a._said.now.1 a._said.now.2); tells = quiet }
