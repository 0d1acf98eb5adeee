use Rattle.std.proofs.Common.{length, Some}
use Rattle.crq_rule.specs.ScarceParts.{pending}
use Rattle.crq_rule.specs.Kinds.{new_base}
use Rattle.crq_rule.proofs.Puts.{put_here}
use Rattle.crq_rule.proofs.ScarceLaws.{rows_counted}
use Rattle.crq_rule.proofs.StatingScarcity.{enough, refuses}
use Rattle.crq_rule.proofs.laws.scarcity_law.Goals as goal

pub returns : goal.returns
returns c = record {
  begins = λ c j. put_here c.base j (Some (new_base (length c.history) (pending c.history) c.words.epoch));
  refuses = refuses;
  count = λ c k b inv inside vain. rows_counted c k b inside vain inv;
  pending = λ c k b inv inside is. (inv.scarce.each k b inside is).events;
  enough = enough;
}
