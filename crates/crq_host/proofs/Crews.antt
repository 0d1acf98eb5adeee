-- Passes that go from their places to the workers, and back, one after another.
use Rattle.std.proofs.Common.{◌≡◌, ℕ, ◌+◌, ◌<◌, ◌≤◌, inl, inr, List, length, map, set, slice_get, get_or, Option, Some, None, refl, sym, ap, ◌∙◌, subst, arith, length-set}
use Rattle.std.specs.Prelude.{option_map, IfSome, OnOk, All, Result, Ok, Err}
use Rattle.std.proofs.lemmas.Bool.{cases_eq}
use Rattle.std.proofs.lemmas.List.{length-map}
use Rattle.std.proofs.lemmas.Option.{same_Some, slice_get_within, slice_get-get_or, slice_get-map}
use Rattle.crq_base.specs.declared.answers.Short.{Short}
use Rattle.crq_set.specs.Views.{PassView}
use Rattle.crq_host.specs.declared.worker.Worker.{Worker}
use Rattle.crq_host.specs.Workers.{without_pass, HavePasses, views_of, AreLifted, AreNumbered, TellsShort, shorts_of}
use Rattle.crq_host.proofs.Places.{get-set_same, get-set_other, same_places, map-set_same, element, get-map}

module _ {P : Type 0} (view : P → PassView) (Is : P → Type 0) where
  -- the first n passes were lifted
  pub record Lifting (first_places places : List (Option PassView)) (first_workers workers : List (Worker P)) (n : ℕ) : Type 0 where
    pub wide : length places ≡ length first_places
    pub gone : (j : ℕ) → j < n → slice_get places j ≡ Some None
    pub left : (j : ℕ) → n ≤ j → slice_get places j ≡ slice_get first_places j
    pub views : (j : ℕ) (w : Worker P) → j < n → slice_get workers j ≡ Some w → slice_get first_places j ≡ Some (option_map view w.pass)
    pub passes : (j : ℕ) (w : Worker P) → j < n → slice_get workers j ≡ Some w → IfSome w.pass Is
    pub rest : map (without_pass {P = P}) workers ≡ map (without_pass {P = P}) first_workers

  pub lifting_none : (places : List (Option PassView)) (workers : List (Worker P)) → Lifting places places workers workers 0
  lifting_none places workers = record {
    wide = refl;
    gone = (λ j lt. absurd (omega arith));
    left = (λ j le. refl);
    views = (λ j w lt at. absurd (omega arith));
    passes = (λ j w lt at. absurd (omega arith));
    rest = refl;
  }

  pub lifting_more : (first_places places next : List (Option PassView)) (first_workers workers : List (Worker P)) (n : ℕ) (pass : P) (w d : Worker P) → Lifting first_places places first_workers workers n
      → n < length workers → n < length first_places → slice_get places n ≡ Some (Some (view pass)) → next ≡ set places n None → Is pass → w.pass ≡ Some pass → without_pass w ≡ without_pass (get_or workers n d)
      → Lifting first_places next first_workers (set workers n w) (n + 1)
  lifting_more first_places places next first_workers workers n pass w d l within there was is of has same = record {
    wide = ap length is ∙ length-set places n None ∙ l.wide;
    gone = (λ j lt. ap (λ ps. slice_get ps j) is ∙ elim (cases_eq j n) [
      | inl e ↦ ap (λ i. slice_get (set places n None) i) e ∙ get-set_same places n None (let a = l.wide in omega arith)
      | inr e ↦ get-set_other places n j None e ∙ l.gone j (omega arith)
    ]);
    left = (λ j le. ap (λ ps. slice_get ps j) is ∙ get-set_other places n j None (omega arith) ∙ l.left j (omega arith));
    views = (λ j v lt at. elim (cases_eq j n) [
      | inl e ↦ (let v_is : v ≡ w = same_Some v w (sym at ∙ ap (λ i. slice_get (set workers n w) i) e ∙ get-set_same workers n w within) in
          ap (λ i. slice_get first_places i) e ∙ sym (l.left n (omega arith)) ∙ was ∙ ap (λ o. Some (option_map view o)) (sym (ap (λ (x : Worker P). x.pass) v_is ∙ has)))
      | inr e ↦ l.views j v (omega arith) (sym (get-set_other workers n j w e) ∙ at)
    ]);
    passes = (λ j v lt at. elim (cases_eq j n) [
      | inl e ↦ (let v_is : v ≡ w = same_Some v w (sym at ∙ ap (λ i. slice_get (set workers n w) i) e ∙ get-set_same workers n w within) in
          subst (λ o. IfSome o Is) (sym (ap (λ (x : Worker P). x.pass) v_is ∙ has)) of)
      | inr e ↦ l.passes j v (omega arith) (sym (get-set_other workers n j w e) ∙ at)
    ]);
    rest = map-set_same (without_pass {P = P}) workers n w d within same ∙ l.rest;
  }

  pub lifted_views : (first_places places : List (Option PassView)) (first_workers workers : List (Worker P)) (n : ℕ) → Lifting first_places places first_workers workers n → length workers ≡ n → length first_places ≡ n
      → views_of view workers ≡ first_places
  lifted_views first_places places first_workers workers n l many wide =
      let size = length-map workers (λ (w : Worker P). option_map view w.pass) in
      same_places (views_of view workers) first_places (omega arith) (λ k lt.
      let w = element workers k (omega arith) in
      get-map (λ (w : Worker P). option_map view w.pass) workers k w.0 w.1 ∙ sym (l.views k w.0 (omega arith) w.1))

  -- the first n passes were put back
  pub record Lowering (places : List (Option PassView)) (first_workers workers : List (Worker P)) (n : ℕ) : Type 0 where
    pub wide : length places ≡ length first_workers
    pub there : (j : ℕ) (w : Worker P) → j < n → slice_get first_workers j ≡ Some w → slice_get places j ≡ Some (option_map view w.pass)
    pub empty : (j : ℕ) → n ≤ j → j < length first_workers → slice_get places j ≡ Some None
    pub left : (j : ℕ) → n ≤ j → slice_get workers j ≡ slice_get first_workers j
    pub idle : (j : ℕ) (w : Worker P) → j < n → slice_get workers j ≡ Some w → w.pass ≡ None
    pub rest : map (without_pass {P = P}) workers ≡ map (without_pass {P = P}) first_workers

  pub lowering_none : (places : List (Option PassView)) (workers : List (Worker P)) → AreLifted (length workers) places → Lowering places workers workers 0
  lowering_none places workers l = record {
    wide = l.count;
    there = (λ j w lt at. absurd (omega arith));
    empty = (λ j le lt. l.empty j lt);
    left = (λ j le. refl);
    idle = (λ j w lt at. absurd (omega arith));
    rest = refl;
  }

  -- the next worker's place has what is known of its pass, if it has one
  pub lowering_more : (places next : List (Option PassView)) (first_workers workers : List (Worker P)) (n : ℕ) (w d : Worker P) → Lowering places first_workers workers n
      → n < length workers → length workers ≡ length first_workers → next ≡ set places n (option_map view (get_or workers n d).pass) → w.pass ≡ None → without_pass w ≡ without_pass (get_or workers n d)
      → Lowering next first_workers (set workers n w) (n + 1)
  lowering_more places next first_workers workers n w d l within many is none same = record {
    wide = ap length is ∙ length-set places n _ ∙ l.wide;
    there = (λ j v lt at. elim (cases_eq j n) [
      | inl e ↦ (let at_n : slice_get first_workers n ≡ Some v = ap (λ i. slice_get first_workers i) (sym e) ∙ at in
          let v_is : get_or workers n d ≡ v = same_Some _ _ (sym (slice_get-get_or workers n d within) ∙ l.left n (omega arith) ∙ at_n) in
          ap (λ ps. slice_get ps j) is ∙ ap (λ i. slice_get (set places n (option_map view (get_or workers n d).pass)) i) e ∙ get-set_same places n _ (let a = l.wide in omega arith)
          ∙ ap (λ (x : Worker P). Some (option_map view x.pass)) v_is)
      | inr e ↦ ap (λ ps. slice_get ps j) is ∙ get-set_other places n j _ e ∙ l.there j v (omega arith) at
    ]);
    empty = (λ j le lt. ap (λ ps. slice_get ps j) is ∙ get-set_other places n j _ (omega arith) ∙ l.empty j (omega arith) lt);
    left = (λ j le. get-set_other workers n j w (omega arith) ∙ l.left j (omega arith));
    idle = (λ j v lt at. elim (cases_eq j n) [
      | inl e ↦ (let v_is : v ≡ w = same_Some v w (sym at ∙ ap (λ i. slice_get (set workers n w) i) e ∙ get-set_same workers n w within) in ap (λ (x : Worker P). x.pass) v_is ∙ none)
      | inr e ↦ l.idle j v (omega arith) (sym (get-set_other workers n j w e) ∙ at)
    ]);
    rest = map-set_same (without_pass {P = P}) workers n w d within same ∙ l.rest;
  }

  pub lowered_views : (places : List (Option PassView)) (first_workers workers : List (Worker P)) (n : ℕ) → Lowering places first_workers workers n → length first_workers ≡ n → places ≡ views_of view first_workers
  lowered_views places first_workers workers n l many =
      let size = length-map first_workers (λ (w : Worker P). option_map view w.pass) in
      let wide = l.wide in
      same_places places (views_of view first_workers) (omega arith) (λ k lt.
      let w = element first_workers k (omega arith) in
      l.there k w.0 (omega arith) w.1 ∙ sym (get-map (λ (w : Worker P). option_map view w.pass) first_workers k w.0 w.1))

  -- the pass of the next worker is as all are, and has its number
  pub lowers_pass : (places : List (Option PassView)) (first_workers workers : List (Worker P)) (n : ℕ) (pass : P) (d : Worker P) → Lowering places first_workers workers n
      → n < length workers → HavePasses Is first_workers → (get_or workers n d).pass ≡ Some pass → Is pass
  lowers_pass places first_workers workers n pass d l within each had =
      subst (λ o. IfSome o Is) had (each n (get_or workers n d) (sym (l.left n (omega arith)) ∙ slice_get-get_or workers n d within))

  pub lowers_number : (places : List (Option PassView)) (first_workers workers : List (Worker P)) (n : ℕ) (pass : P) (d : Worker P) → Lowering places first_workers workers n
      → n < length workers → AreNumbered (views_of view first_workers) → (get_or workers n d).pass ≡ Some pass → (view pass).number ≡ n
  lowers_number places first_workers workers n pass d l within each had =
      each n (view pass) (get-map (λ (w : Worker P). option_map view w.pass) first_workers n (get_or workers n d) (sym (l.left n (omega arith)) ∙ slice_get-get_or workers n d within) ∙ ap (λ o. Some (option_map view o)) had)

-- why a worker stopped, in the list of all
pub short_at : {P : Type 0} (workers : List (Worker P)) (i k : ℕ) (d : Worker P) (short : Option Short) → i < length workers → k ≡ i → slice_get (shorts_of workers) k ≡ Some short → short ≡ (get_or workers i d).short
short_at {P} workers i k d short lt same at =
    same_Some _ _ (sym at ∙ ap (λ n. slice_get (shorts_of workers) n) same ∙ get-map (λ (w : Worker P). w.short) workers i (get_or workers i d) (slice_get-get_or workers i d lt))

pub shorts_within : {P : Type 0} (workers : List (Worker P)) (k : ℕ) (short : Option Short) → slice_get (shorts_of workers) k ≡ Some short → k < length workers
shorts_within {P} workers k short at = let lt = slice_get_within (shorts_of workers) k short at in let same = length-map workers (λ (w : Worker P). w.short) in omega arith

pub shorts_count : {P : Type 0} (workers : List (Worker P)) → length (shorts_of workers) ≡ length workers
shorts_count {P} workers = length-map workers (λ (w : Worker P). w.short)

-- nobody stopped where no reason is told
pub none_short : {P : Type 0} (ws : List (Worker P)) (r : Result (Unit {0}) Short) → TellsShort (shorts_of ws) r → OnOk r (All (λ (w : Worker P). w.short ≡ None) ws)
none_short ws (Ok u) tells = λ k d lt. tells k (get_or ws k d).short (slice_get-map (λ (w : Worker _). w.short) ws k ∙ ap (option_map (λ (w : Worker _). w.short)) (slice_get-get_or ws k d lt))
none_short ws (Err short) tells = tt
