use Rattle.std.proofs.Common.{◌≡◌, is_some, sym, ◌∙◌, rules, tests}
use Rattle.std.specs.List.{list_all}
use Rattle.std.proofs.lemmas.Iterator.{YieldsList-from_slice}
use Rattle.std.proofs.lemmas.Iterator.Search.{all_from_yields_List}
use Rattle.serde_json.specs.Find.{as_str}
use Rattle.serde_json.specs.View.{view}
use Rattle.crq_reader.proofs.ElementLaws.{all_viewed}
use Rattle.crq_reader.proofs.draft.are_texts.Goals as goal

pub returns : goal.returns
returns c =
    let seen : c.all.result ≡ list_all (λ v. is_some (as_str (view v))) c.args.values.now =
    all_from_yields_List (λ v. is_some (as_str (view v))) _ _ c.all.result c.all.ensures.ran (YieldsList-from_slice c.args.values.now cc) (λ x b q k. search (rules, tests)) in
    seen ∙ sym (all_viewed (λ t. is_some (as_str t)) c.args.values.now)
