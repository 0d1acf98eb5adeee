use Rattle.std.proofs.Common.{◌≡◌, ◌≤◌, ◌++◌, ◌∷◌, [], false, Some, ap, sym, subst, ◌∙◌}
use Rattle.std.specs.Str.{IsUtf8}
use Rattle.std.proofs.lemmas.Str.{IsUtf8-append}
use Rattle.serde_json.specs.Data.{depth}
use Rattle.serde_json.specs.Read.{read}
use Rattle.serde_json.specs.View.{view}
use Rattle.serde_json.specs.Written.{has_float, compact_text}
use Rattle.crq_reader.specs.Canonical.{canonical, model_data}
use Rattle.crq_reader.proofs.CanonicalLaws.{model_no_float, model_not_deep}
use Rattle.crq_reader.proofs.JsonLaws.{read_as}
use Rattle.crq_reader.proofs.NewlineLaws.{newline_is_text, read-newline}
use Rattle.crq_reader.proofs.text.bytes.Goals as goal

pub returns-clause-text : goal.returns-clause-text
unfolding canonical
returns-clause-text c =
    let m = c.args.model.now in
    let no_float : has_float (view c.in_ok-value.value) ≡ false = ap has_float c.in_ok-value.ensures.value ∙ model_no_float m in
    c.in_ok-push.ensures.items ∙ ap (λ xs. xs ++ 10 ∷ []) (c.in_ok-text.ensures.text no_float ∙ ap compact_text c.in_ok-value.ensures.value)

pub returns-clause-reads_back : goal.returns-clause-reads_back
returns-clause-reads_back c =
    let m = c.args.model.now in
    let shallow : depth (view c.in_ok-value.value) ≤ 127 = subst (λ d. depth d ≤ 127) (sym c.in_ok-value.ensures.value) (model_not_deep m) in
    let is : read c.in_ok-text.text.items ≡ Some (model_data m) = c.in_ok-text.ensures.reads_back shallow ∙ ap Some c.in_ok-value.ensures.value in
    let utf8 = subst IsUtf8 (sym c.in_ok-push.ensures.items) (IsUtf8-append c.in_ok-text.text.items (10 ∷ []) c.in_ok-text.ensures.utf8 newline_is_text) in
    read_as c.push.new.self.items (model_data m) m utf8 (ap read c.in_ok-push.ensures.items ∙ read-newline c.in_ok-text.text.items (model_data m) is c.in_ok-text.ensures.compact) c.in_ok-value.ensures.back
