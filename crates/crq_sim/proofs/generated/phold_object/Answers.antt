use Rattle.std.proofs.Common.{◌∙◌, ap}
use Rattle.crq_sim.specs.Names.{is_name}
use Rattle.crq_sim.proofs.GeneratedLemmas.{named}
use Rattle.crq_sim.proofs.generated.phold_object.Goals as goal

pub from_text-requires : goal.from_text-requires
from_text-requires c = ap is_name (c.as_str.ensures.value ∙ c.in_ok-text.ensures.ok) ∙ named c.args.number c.requires
