-- What is pending in a history that goes on, and what holds of all entries of several callers.
use Rattle.std.proofs.Common.{◌≡◌, ℕ, ◌+◌, ◌<◌, inl, inr, List, [], ◌∷◌, ◌++◌, length, length-append, refl, sym, ap, ◌∙◌, subst, append_assoc, append-nil, eqb, eq-eqb, Option, Some, slice_get, arith}
use Rattle.std.specs.List.{Contains, filter}
use Rattle.std.proofs.lemmas.List.Elements.{filter-append, Contains-append_left}
use Rattle.crq_base.specs.declared.event.Event.{Event}
use Rattle.crq_base.specs.declared.entry.Entry.{Entry}
use Rattle.crq_base.specs.declared.entry.Entry.TheVariants.{Begin, Put, Settled, Take, Miss, Table}
use Rattle.crq_base.specs.Entries.{caller_of}
use Rattle.crq_base.specs.Histories.{puts, outs, IsPending, IsLegalAfter, IsLegal, table_count, is_table}
use Rattle.crq_base.specs.Lists.{In}
use Rattle.crq_base.proofs.HistoryLaws.{puts-append, outs-append, legal_back}
use Rattle.crq_set.specs.Views.{PassView, Setup}
use Rattle.crq_set.specs.Gathered.{AreThere, StandsIn, Gathers}
use Rattle.crq_host.specs.Histories.{IsCalm}
use Rattle.crq_host.specs.Phases.{LacksRowsFor}
use Rattle.crq_host.specs.Workers.{AllAre, IsTaking, IsPutting, LacksRowsSince}
use Rattle.crq_host.proofs.Elements.{in_filter, filter_in, in_split}

-- entries of takes put nothing, entries of puts take nothing, and neither open a table
pub takings_put_none : (limit : ℕ) (xs : List Entry) → AllAre (IsTaking limit) xs → puts xs ≡ []
takings_put_none limit [] all = refl
takings_put_none limit (Begin c ∷ xs) all = takings_put_none limit xs (λ x i. all x (inr i))
takings_put_none limit (Put c e ∷ xs) all = absurd (all (Put c e) (inl refl))
takings_put_none limit (Settled c e ∷ xs) all = absurd (all (Settled c e) (inl refl))
takings_put_none limit (Take c e ∷ xs) all = takings_put_none limit xs (λ x i. all x (inr i))
takings_put_none limit (Miss c l ∷ xs) all = takings_put_none limit xs (λ x i. all x (inr i))
takings_put_none limit (Table c l s ∷ xs) all = absurd (all (Table c l s) (inl refl))

pub takings_open_none : (limit : ℕ) (xs : List Entry) → AllAre (IsTaking limit) xs → table_count xs ≡ 0
takings_open_none limit [] all = refl
takings_open_none limit (Begin c ∷ xs) all = takings_open_none limit xs (λ x i. all x (inr i))
takings_open_none limit (Put c e ∷ xs) all = absurd (all (Put c e) (inl refl))
takings_open_none limit (Settled c e ∷ xs) all = absurd (all (Settled c e) (inl refl))
takings_open_none limit (Take c e ∷ xs) all = takings_open_none limit xs (λ x i. all x (inr i))
takings_open_none limit (Miss c l ∷ xs) all = takings_open_none limit xs (λ x i. all x (inr i))
takings_open_none limit (Table c l s ∷ xs) all = absurd (all (Table c l s) (inl refl))

pub puttings_take_none : (xs : List Entry) → AllAre IsPutting xs → outs xs ≡ []
puttings_take_none [] all = refl
puttings_take_none (Begin c ∷ xs) all = puttings_take_none xs (λ x i. all x (inr i))
puttings_take_none (Put c e ∷ xs) all = puttings_take_none xs (λ x i. all x (inr i))
puttings_take_none (Settled c e ∷ xs) all = puttings_take_none xs (λ x i. all x (inr i))
puttings_take_none (Take c e ∷ xs) all = absurd (all (Take c e) (inl refl))
puttings_take_none (Miss c l ∷ xs) all = absurd (all (Miss c l) (inl refl))
puttings_take_none (Table c l s ∷ xs) all = absurd (all (Table c l s) (inl refl))

pub puttings_open_none : (xs : List Entry) → AllAre IsPutting xs → table_count xs ≡ 0
puttings_open_none [] all = refl
puttings_open_none (Begin c ∷ xs) all = puttings_open_none xs (λ x i. all x (inr i))
puttings_open_none (Put c e ∷ xs) all = puttings_open_none xs (λ x i. all x (inr i))
puttings_open_none (Settled c e ∷ xs) all = puttings_open_none xs (λ x i. all x (inr i))
puttings_open_none (Take c e ∷ xs) all = absurd (all (Take c e) (inl refl))
puttings_open_none (Miss c l ∷ xs) all = absurd (all (Miss c l) (inl refl))
puttings_open_none (Table c l s ∷ xs) all = absurd (all (Table c l s) (inl refl))

pub tables-append : (h g : List Entry) → table_count (h ++ g) ≡ table_count h + table_count g
tables-append h g = ap length (filter-append is_table h g) ∙ length-append (filter is_table h) (filter is_table g)

-- where nothing is put since, what is pending was so before
pub pending_back : (h xs : List Entry) (e : Event) → puts xs ≡ [] → IsPending (h ++ xs) e → IsPending h e
pending_back h xs e none p = record {
  put = subst (λ es. Contains es e) (puts-append h xs ∙ ap (λ ys. puts h ++ ys) none ∙ append-nil (puts h)) p.put;
  kept = (λ at. p.kept (subst (λ es. Contains es e) (sym (outs-append h xs)) (Contains-append_left (outs h) (outs xs) e at)));
}

-- how a gathered history goes on from what was dealt
pub record IsAfter (h history since : List Entry) : Type 0 where
  pub extends : history ≡ h ++ since
  pub legal : IsLegalAfter h since
  pub calm : IsCalm history

module _ (n : ℕ) (places : List (Option PassView)) (h history : List Entry) (there : AreThere n places) (g : Gathers n places history) where
  pub gathered_after : 0 < n → ((k : ℕ) (v : PassView) → slice_get places k ≡ Some (Some v) → v.dealt ≡ h) → IsAfter h history g.since
  gathered_after some dealt =
      let first = there 0 some in
      let is : history ≡ h ++ g.since = (g.each 0 first.0 first.1).extends ∙ ap (λ d. d ++ g.since) (dealt 0 first.0 first.1) in
      record {
        extends = is;
        legal = legal_back [] h g.since (subst IsLegal is g.legal);
        calm = record { legal = g.legal; settled = g.settled };
      }

  -- where each pass's own entries are so, all are
  pub gathered_all : (Is : Entry → Type 0) → ((k : ℕ) (v : PassView) → slice_get places k ≡ Some (Some v) → AllAre Is v.own) → AllAre Is g.since
  gathered_all Is each x i =
      let v = there (caller_of x) (g.inside x i) in
      each (caller_of x) v.0 v.1 x (subst (In x) (g.each (caller_of x) v.0 v.1).own (in_filter (λ y. eqb (caller_of y) (caller_of x)) x g.since (eq-eqb (caller_of x) (caller_of x) refl) i))

  -- an entry of a pass is one of all
  pub gathered_in : (k : ℕ) (v : PassView) (x : Entry) → slice_get places k ≡ Some (Some v) → In x v.own → In x g.since
  gathered_in k v x at i = filter_in (λ y. eqb (caller_of y) k) x g.since (subst (In x) (sym (g.each k v at).own) i)

-- The events that a refusal counts, where no table was opened: they were pending before the entries if these put none, and after them if these take none
module _ (setup : Setup) (h history since : List Entry) (k : ℕ) (v : PassView) (a : IsAfter h history since) (none : table_count history ≡ 0) (s : StandsIn history since k v) (number : v.number ≡ k) (lacks : LacksRowsSince setup v v.own) where
  kept_before : (e : Event) → In e v.refused → Contains (outs h) e → ⊥
  kept_before e i out =
      let begun : In (Begin k) since = elim lacks.1 [
        | inl b ↦ filter_in (λ y. eqb (caller_of y) k) (Begin k) since (subst (In (Begin k)) (sym s.own) (subst (λ m. In (Begin m) v.own) number b))
        | inr t ↦ absurd (let told = s.tables in omega arith)
      ] in
      let cut = in_split (Begin k) since begun in
      let is : history ≡ (h ++ cut.0) ++ (Begin k ∷ cut.1) = a.extends ∙ ap (λ xs. h ++ xs) cut.2 ∙ sym (append_assoc h cut.0 (Begin k ∷ cut.1)) in
      s.refused.kept e (h ++ cut.0) cut.1 i is (subst (λ es. Contains es e) (sym (outs-append h cut.0)) (Contains-append_left (outs h) (outs cut.0) e out))

  pub lacks_before : puts since ≡ [] → LacksRowsFor setup h
  lacks_before put = record {
    events = v.refused;
    once = s.refused.once;
    pending = (λ e i. record {
      put = subst (λ es. Contains es e) (ap puts a.extends ∙ puts-append h since ∙ ap (λ ys. puts h ++ ys) put ∙ append-nil (puts h)) (s.refused.put e i);
      kept = kept_before e i;
    });
    many = lacks.0;
  }

  pub lacks_after : outs since ≡ [] → LacksRowsFor setup history
  lacks_after taken = record {
    events = v.refused;
    once = s.refused.once;
    pending = (λ e i. record {
      put = s.refused.put e i;
      kept = (λ at. kept_before e i (subst (λ es. Contains es e) (ap outs a.extends ∙ outs-append h since ∙ ap (λ ys. outs h ++ ys) taken ∙ append-nil (outs h)) at));
    });
    many = lacks.0;
  }
