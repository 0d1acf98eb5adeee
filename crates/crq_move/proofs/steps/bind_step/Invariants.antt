use Rattle.std.proofs.Common.{◌==◌, cond}
use Rattle.crq_base.specs.declared.kinds.StepKind.TheVariants.{Bind}
use Rattle.crq_rule.specs.CopyKinds.{binds, finds_twin}
use Rattle.crq_rule.specs.Moves.{TellsTwin}
use Rattle.crq_move.proofs.steps.bind_step.Given as goal

abbrev pub ghosts-exchange_seated : goal.ghosts-exchange_seated
ghosts-exchange_seated a = record { kind = Bind; change = λ t. λ q. cond (t == 0) (binds a._said.now q) (finds_twin a._said.now t q); tells = TellsTwin }
