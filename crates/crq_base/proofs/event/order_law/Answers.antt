use Rattle.crq_base.proofs.KeyOrder.{event_total}
use Rattle.crq_base.proofs.event.order_law.Goals as goal

pub returns-clause-total : goal.returns-clause-total
returns-clause-total c = event_total
