use Rattle.std.proofs.Common.{◌≡◌, Ok}
use Rattle.serde_json.specs.View.{view}
use Rattle.crq_reader.specs.Language.{model_of}
use Rattle.crq_reader.proofs.ModelLaws.{model_kept}
use Rattle.crq_reader.proofs.read.model.Goals as goal

pub new-requires : goal.new-requires
new-requires c =
    let read : model_of (view c.args.value.now) ≡ Ok (record { lookahead = c.in-Ok.header.lookahead; until = c.in-Ok.header.until; objects = c.from_vec.result; starts = c.from_vec-2.result }) =
    rw (← c.in-Ok.ensures.value, c.in_ok-drafts.ensures.ok, c.in_ok-objects.ensures.ok, c.in_ok-starts.ensures.ok, c.from_vec.ensures, c.from_vec-2.ensures) in
    model_kept (view c.args.value.now) _ read
