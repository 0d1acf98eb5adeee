-- Texts that aren't JSON.
use Rattle.std.proofs.Common.{◌≡◌, ℕ, List, Some, None, Ok, Err, inl, inr}
use Rattle.std.specs.Str.{IsUtf8, is_utf8}
use Rattle.std.proofs.lemmas.Bool.{cases_Bool}
use Rattle.std.proofs.lemmas.Str.{IsUtf8-from_is_utf8, is_utf8-from_IsUtf8}
use Rattle.serde_json.specs.Read.{read}
use Rattle.serde_json.specs.Data.{Data}
use Rattle.crq_sim.specs.Models.{ModelData}
use Rattle.crq_reader.specs.Language.{language, model_of, in_file, as_whole}
use Rattle.crq_reader.specs.declared.fault.FaultNumber.TheVariants.{NotJson}

pub not_json : (text : List ℕ) → (IsUtf8 text → read text ≡ None) → language text ≡ Err (in_file (as_whole NotJson))
unfolding language
not_json text refused = elim (cases_Bool (is_utf8 text)) [ inl is ↦ rw (is, refused (IsUtf8-from_is_utf8 text is)) | inr is_not ↦ rw is_not ]

pub read_as : (text : List ℕ) (d : Data) (m : ModelData) → IsUtf8 text → read text ≡ Some d → model_of d ≡ Ok m → language text ≡ Ok m
unfolding language
read_as text d m utf8 is made = rw (is_utf8-from_IsUtf8 text utf8, is) made
