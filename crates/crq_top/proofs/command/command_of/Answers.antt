use Rattle.std.proofs.Common.{◌≡◌, ◌<◌, ◌∙◌, ℕ, zero, suc, List, [], ◌∷◌, map, string_bytes, length, get_or, subst, sym, ap, refl, Global, arith}
use Rattle.std.specs.Prelude.{String}
use Rattle.std.specs.Fmt.{decimal}
use Rattle.crq_top.specs.declared.forms.Parameter.{Parameter}
use Rattle.crq_top.specs.declared.forms.Parameter.TheVariants.{Model}
use Rattle.crq_top.specs.declared.forms.Verb.{Verb}
use Rattle.crq_top.specs.declared.forms.Verb.TheVariants.{Run, Check, Serial, Gen}
use Rattle.crq_top.specs.Commands.{AllFit, Fits, form_of}
use Rattle.crq_top.proofs.command.command_of.Goals as goal

fit_length : (most : ℕ) (ps : List Parameter) (ws : List (String Global)) → AllFit most ps (map string_bytes ws) → length ws ≡ length ps
fit_length most [] [] h = refl
fit_length most [] (w ∷ ws) h = absurd h
fit_length most (p ∷ ps) [] h = absurd h
fit_length most (p ∷ ps) (w ∷ ws) h = ap (λ n. suc n) (fit_length most ps ws h.1)

fits_at : (most : ℕ) (ps : List Parameter) (ws : List (String Global)) (i : ℕ) (p : Parameter) (w : String Global) → AllFit most ps (map string_bytes ws) → i < length ps
    → Fits most (get_or ps i p) (string_bytes (get_or ws i w))
fits_at most [] ws i p w h lt = absurd (omega arith)
fits_at most (q ∷ qs) [] i p w h lt = absurd h
fits_at most (q ∷ qs) (v ∷ vs) zero p w h lt = h.0
fits_at most (q ∷ qs) (v ∷ vs) (suc i) p w h lt = fits_at most qs vs i p w h.1 (omega arith)

module _ (most : ℕ) (verb v : Verb) (ws : List (String Global)) (h : AllFit most (form_of verb) (map string_bytes ws)) (is : verb ≡ v) where
  so_many : length ws ≡ length (form_of v)
  so_many = fit_length most (form_of v) ws (subst (λ v. AllFit most (form_of v) (map string_bytes ws)) is h)

  fits_here : (i : ℕ) (w : String Global) (t : List ℕ) → i < length (form_of v) → w ≡ get_or ws i w → t ≡ string_bytes w → Fits most (get_or (form_of v) i Model) t
  fits_here i w t lt wi tw =
      subst (λ u. Fits most (get_or (form_of v) i Model) u) (sym (tw ∙ ap string_bytes wi)) (fits_at most (form_of v) ws i Model w (subst (λ v. AllFit most (form_of v) (map string_bytes ws)) is h) lt)

one_word : (ws : List (String Global)) (a : String Global) → length ws ≡ 1 → a ≡ get_or ws 0 a → a ∷ [] ≡ ws
one_word [] a n ia = absurd (omega arith)
one_word (w ∷ []) a n ia = λ t. ia t ∷ []
one_word (w ∷ x ∷ ws) a n ia = absurd (omega arith)

two_words : (ws : List (String Global)) (a b : String Global) → length ws ≡ 2 → a ≡ get_or ws 0 a → b ≡ get_or ws 1 b → a ∷ b ∷ [] ≡ ws
two_words [] a b n ia ib = absurd (omega arith)
two_words (w ∷ ws) a b n ia ib = let e : b ∷ [] ≡ ws = one_word ws b (omega arith) ib in λ t. ia t ∷ e t

three_words : (ws : List (String Global)) (a b c : String Global) → length ws ≡ 3 → a ≡ get_or ws 0 a → b ≡ get_or ws 1 b → c ≡ get_or ws 2 c → a ∷ b ∷ c ∷ [] ≡ ws
three_words [] a b c n ia ib ic = absurd (omega arith)
three_words (w ∷ ws) a b c n ia ib ic = let e : b ∷ c ∷ [] ≡ ws = two_words ws b c (omega arith) ib ic in λ t. ia t ∷ e t

four_words : (ws : List (String Global)) (a b c d : String Global) → length ws ≡ 4 → a ≡ get_or ws 0 a → b ≡ get_or ws 1 b → c ≡ get_or ws 2 c → d ≡ get_or ws 3 d → a ∷ b ∷ c ∷ d ∷ [] ≡ ws
four_words [] a b c d n ia ib ic id = absurd (omega arith)
four_words (w ∷ ws) a b c d n ia ib ic id = let e : b ∷ c ∷ d ∷ [] ≡ ws = three_words ws b c d (omega arith) ib ic id in λ t. ia t ∷ e t

bytes_of : (vs ws : List (String Global)) → vs ≡ ws → map string_bytes vs ≡ map string_bytes ws
bytes_of vs ws e = ap (λ (us : List (String Global)). map string_bytes us) e

-- the same spellings, one by one
same2 : (p q s t : List ℕ) → p ≡ s → q ≡ t → p ∷ q ∷ [] ≡ s ∷ t ∷ []
same2 p q s t e f = λ i. e i ∷ f i ∷ []

same3 : (p q r s t u : List ℕ) → p ≡ s → q ≡ t → r ≡ u → p ∷ q ∷ r ∷ [] ≡ s ∷ t ∷ u ∷ []
same3 p q r s t u e f g = λ i. e i ∷ f i ∷ g i ∷ []

same4 : (p q r x s t u y : List ℕ) → p ≡ s → q ≡ t → r ≡ u → x ≡ y → p ∷ q ∷ r ∷ x ∷ [] ≡ s ∷ t ∷ u ∷ y ∷ []
same4 p q r x s t u y e f g h = λ i. e i ∷ f i ∷ g i ∷ h i ∷ []

pub bounds-words-0 : goal.bounds-words-0
bounds-words-0 c = let e : length c.args.words.now ≡ 4 = so_many c.args.most c.args.verb Run c.args.words.now c.requires c.in-Run.is in omega arith

pub bounds-words-1 : goal.bounds-words-1
bounds-words-1 c = let e : length c.args.words.now ≡ 4 = so_many c.args.most c.args.verb Run c.args.words.now c.requires c.in-Run.is in omega arith

pub bounds-words-2 : goal.bounds-words-2
bounds-words-2 c = let e : length c.args.words.now ≡ 4 = so_many c.args.most c.args.verb Run c.args.words.now c.requires c.in-Run.is in omega arith

pub bounds-words-3 : goal.bounds-words-3
bounds-words-3 c = let e : length c.args.words.now ≡ 4 = so_many c.args.most c.args.verb Run c.args.words.now c.requires c.in-Run.is in omega arith

pub value-requires : goal.value-requires
value-requires c = record {
  fits = fits_here c.args.most c.args.verb Run c.args.words.now c.requires c.in-Run.is 1 c.index-words-1.result c.as_str-in-Run.result.now (omega arith) c.index-words-1.is c.as_str-in-Run.ensures.value;
  number = refl;
}

pub value-requires-in-Run : goal.value-requires-in-Run
value-requires-in-Run c = record {
  fits = fits_here c.args.most c.args.verb Run c.args.words.now c.requires c.in-Run.is 2 c.index-words-2.result c.as_str-in-Run-2.result.now (omega arith) c.index-words-2.is c.as_str-in-Run-2.ensures.value;
  number = refl;
}

pub value-requires-in-Run-2 : goal.value-requires-in-Run-2
value-requires-in-Run-2 c = record {
  fits = fits_here c.args.most c.args.verb Run c.args.words.now c.requires c.in-Run.is 3 c.index-words-3.result c.as_str-in-Run-3.result.now (omega arith) c.index-words-3.is c.as_str-in-Run-3.ensures.value;
  number = refl;
}

pub returns-in-Run : goal.returns-in-Run
returns-in-Run c =
    let many : length c.args.words.now ≡ 4 = so_many c.args.most c.args.verb Run c.args.words.now c.requires c.in-Run.is in
    let all : c.index-words-0.result ∷ c.index-words-1.result ∷ c.index-words-2.result ∷ c.index-words-3.result ∷ [] ≡ c.args.words.now = four_words c.args.words.now c.index-words-0.result c.index-words-1.result c.index-words-2.result c.index-words-3.result many c.index-words-0.is c.index-words-1.is c.index-words-2.is c.index-words-3.is in
    record {
      verb = sym c.in-Run.is;
      operands = same4 c.as_str.result.now (decimal c.value.result) (decimal c.value-in-Run.result) (decimal c.value-in-Run-2.result) (string_bytes c.index-words-0.result) (string_bytes c.index-words-1.result) (string_bytes c.index-words-2.result) (string_bytes c.index-words-3.result) c.as_str.ensures.value (sym c.value.ensures.1 ∙ c.as_str-in-Run.ensures.value) (sym c.value-in-Run.ensures.1 ∙ c.as_str-in-Run-2.ensures.value) (sym c.value-in-Run-2.ensures.1 ∙ c.as_str-in-Run-3.ensures.value) ∙ bytes_of (c.index-words-0.result ∷ c.index-words-1.result ∷ c.index-words-2.result ∷ c.index-words-3.result ∷ []) c.args.words.now all;
      in_range = (c.value.ensures.0, c.value-in-Run.ensures.0, c.value-in-Run-2.ensures.0);
    }

pub bounds-words-0-in-Check : goal.bounds-words-0-in-Check
bounds-words-0-in-Check c = let e : length c.args.words.now ≡ 1 = so_many c.args.most c.args.verb Check c.args.words.now c.requires c.in-Check.is in omega arith

pub returns-in-Check : goal.returns-in-Check
returns-in-Check c =
    let many : length c.args.words.now ≡ 1 = so_many c.args.most c.args.verb Check c.args.words.now c.requires c.in-Check.is in
    let all : c.index-words-0-in-Check.result ∷ [] ≡ c.args.words.now = one_word c.args.words.now c.index-words-0-in-Check.result many c.index-words-0-in-Check.is in
    let first : c.as_str-in-Check.result.now ≡ string_bytes c.index-words-0-in-Check.result = c.as_str-in-Check.ensures.value in
    record {
      verb = sym c.in-Check.is;
      operands = (λ i. first i ∷ []) ∙ bytes_of (c.index-words-0-in-Check.result ∷ []) c.args.words.now all;
      in_range = tt;
    }

pub bounds-words-0-in-Serial : goal.bounds-words-0-in-Serial
bounds-words-0-in-Serial c = let e : length c.args.words.now ≡ 2 = so_many c.args.most c.args.verb Serial c.args.words.now c.requires c.in-Serial.is in omega arith

pub bounds-words-1-in-Serial : goal.bounds-words-1-in-Serial
bounds-words-1-in-Serial c = let e : length c.args.words.now ≡ 2 = so_many c.args.most c.args.verb Serial c.args.words.now c.requires c.in-Serial.is in omega arith

pub value-requires-in-Serial : goal.value-requires-in-Serial
value-requires-in-Serial c = record {
  fits = fits_here c.args.most c.args.verb Serial c.args.words.now c.requires c.in-Serial.is 1 c.index-words-1-in-Serial.result c.as_str-in-Serial-2.result.now (omega arith) c.index-words-1-in-Serial.is c.as_str-in-Serial-2.ensures.value;
  number = refl;
}

pub returns-in-Serial : goal.returns-in-Serial
returns-in-Serial c =
    let many : length c.args.words.now ≡ 2 = so_many c.args.most c.args.verb Serial c.args.words.now c.requires c.in-Serial.is in
    let all : c.index-words-0-in-Serial.result ∷ c.index-words-1-in-Serial.result ∷ [] ≡ c.args.words.now = two_words c.args.words.now c.index-words-0-in-Serial.result c.index-words-1-in-Serial.result many c.index-words-0-in-Serial.is c.index-words-1-in-Serial.is in
    record {
      verb = sym c.in-Serial.is;
      operands = same2 c.as_str-in-Serial.result.now (decimal c.value-in-Serial.result) (string_bytes c.index-words-0-in-Serial.result) (string_bytes c.index-words-1-in-Serial.result) c.as_str-in-Serial.ensures.value (sym c.value-in-Serial.ensures.1 ∙ c.as_str-in-Serial-2.ensures.value) ∙ bytes_of (c.index-words-0-in-Serial.result ∷ c.index-words-1-in-Serial.result ∷ []) c.args.words.now all;
      in_range = c.value-in-Serial.ensures.0;
    }

pub bounds-words-0-in-Gen : goal.bounds-words-0-in-Gen
bounds-words-0-in-Gen c = let e : length c.args.words.now ≡ 3 = so_many c.args.most c.args.verb Gen c.args.words.now c.requires c.in-Gen.is in omega arith

pub bounds-words-1-in-Gen : goal.bounds-words-1-in-Gen
bounds-words-1-in-Gen c = let e : length c.args.words.now ≡ 3 = so_many c.args.most c.args.verb Gen c.args.words.now c.requires c.in-Gen.is in omega arith

pub bounds-words-2-in-Gen : goal.bounds-words-2-in-Gen
bounds-words-2-in-Gen c = let e : length c.args.words.now ≡ 3 = so_many c.args.most c.args.verb Gen c.args.words.now c.requires c.in-Gen.is in omega arith

pub value-requires-in-Gen : goal.value-requires-in-Gen
value-requires-in-Gen c = record {
  fits = fits_here c.args.most c.args.verb Gen c.args.words.now c.requires c.in-Gen.is 0 c.index-words-0-in-Gen.result c.as_str-in-Gen.result.now (omega arith) c.index-words-0-in-Gen.is c.as_str-in-Gen.ensures.value;
  number = refl;
}

pub value-requires-in-Gen-2 : goal.value-requires-in-Gen-2
value-requires-in-Gen-2 c = record {
  fits = fits_here c.args.most c.args.verb Gen c.args.words.now c.requires c.in-Gen.is 1 c.index-words-1-in-Gen.result c.as_str-in-Gen-2.result.now (omega arith) c.index-words-1-in-Gen.is c.as_str-in-Gen-2.ensures.value;
  number = refl;
}

pub value-requires-in-Gen-3 : goal.value-requires-in-Gen-3
value-requires-in-Gen-3 c = record {
  fits = fits_here c.args.most c.args.verb Gen c.args.words.now c.requires c.in-Gen.is 2 c.index-words-2-in-Gen.result c.as_str-in-Gen-3.result.now (omega arith) c.index-words-2-in-Gen.is c.as_str-in-Gen-3.ensures.value;
  number = refl;
}

pub returns-in-Gen : goal.returns-in-Gen
returns-in-Gen c =
    let many : length c.args.words.now ≡ 3 = so_many c.args.most c.args.verb Gen c.args.words.now c.requires c.in-Gen.is in
    let all : c.index-words-0-in-Gen.result ∷ c.index-words-1-in-Gen.result ∷ c.index-words-2-in-Gen.result ∷ [] ≡ c.args.words.now = three_words c.args.words.now c.index-words-0-in-Gen.result c.index-words-1-in-Gen.result c.index-words-2-in-Gen.result many c.index-words-0-in-Gen.is c.index-words-1-in-Gen.is c.index-words-2-in-Gen.is in
    record {
      verb = sym c.in-Gen.is;
      operands = same3 (decimal c.value-in-Gen.result) (decimal c.value-in-Gen-2.result) (decimal c.value-in-Gen-3.result) (string_bytes c.index-words-0-in-Gen.result) (string_bytes c.index-words-1-in-Gen.result) (string_bytes c.index-words-2-in-Gen.result) (sym c.value-in-Gen.ensures.1 ∙ c.as_str-in-Gen.ensures.value) (sym c.value-in-Gen-2.ensures.1 ∙ c.as_str-in-Gen-2.ensures.value) (sym c.value-in-Gen-3.ensures.1 ∙ c.as_str-in-Gen-3.ensures.value) ∙ bytes_of (c.index-words-0-in-Gen.result ∷ c.index-words-1-in-Gen.result ∷ c.index-words-2-in-Gen.result ∷ []) c.args.words.now all;
      in_range = (c.value-in-Gen.type_inv, c.value-in-Gen-2.ensures.0, c.value-in-Gen-3.ensures.0.1);
    }
