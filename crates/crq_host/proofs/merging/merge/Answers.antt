use Rattle.crq_host.proofs.ShareLaws.{changes_there, merged}
use Rattle.crq_host.proofs.merging.merge.Goals as goal

pub merge_states-requires : goal.merge_states-requires
merge_states-requires g c = changes_there c.requires.0 _ _ c.requires.1

pub returns : goal.returns
returns g c = λ b run. merged b _ _ run _ _ _ c.merge_states.ensures c.in_ok-merge_steps.ensures
