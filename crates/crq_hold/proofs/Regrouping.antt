-- Workers whose passes are made one and dealt again, and go on with numbers that none has used.
use Rattle.std.proofs.Common.{◌≡◌, ◌⊎◌, inl, inr, ⊎_elim, ℕ, ◌+◌, ◌<◌, ◌≤◌, List, [], ◌∷◌, ◌++◌, length, false, Option, Some, None, refl, sym, ap, ◌∙◌, subst, arith}
use Rattle.std.specs.Prelude.{is_some, slice_get, slice_index_or}
use Rattle.std.proofs.lemmas.Option.{slice_get_within, get_or_from_slice_get}
use Rattle.std.proofs.lemmas.List.{get_or_default}
use Rattle.std.proofs.lemmas.Bool.{false≢true}
use mathlib.Core.Logic.{dite}
use native.Mathlib.Decide.{ℕ_discrete}
use Rattle.crq_base.specs.declared.event.Event.{Event}
use Rattle.crq_base.specs.declared.entry.Entry.{Entry}
use Rattle.crq_base.specs.declared.entry.Entry.TheVariants.{Put}
use Rattle.crq_base.specs.Entries.{caller_of}
use Rattle.crq_base.specs.Histories.{own as own_of}
use Rattle.crq_base.specs.Lists.{In}
use Rattle.crq_rule.specs.declared.pass.Pass.{Pass}
use Rattle.crq_rule.specs.declared.pass.Table.{Table}
use Rattle.crq_rule.specs.declared.pass.Seating.{Seating}
use Rattle.crq_rule.specs.declared.pass.Seating.TheVariants.{Here}
use Rattle.crq_rows.specs.Passes.{caller}
use Rattle.crq_queue.specs.declared.calendar.Whole.{Whole}
use Rattle.crq_queue.specs.Wholes.{AreResting, AreDealt, IsGathered, history_of}
use Rattle.crq_hold.specs.declared.worker.Worker.{Worker}
use Rattle.crq_hold.specs.Workers.{IsWorker}
use Rattle.crq_hold.specs.Teams.{AreLifted, AreWorkers}
use Rattle.crq_hold.proofs.Teaming.{place_rests, none_in, some_at}
use Rattle.crq_hold.proofs.Totals.{own_first, own_skip}
use Rattle.crq_hold.proofs.Working.{in_either}

pub none_of : {A : Type 0} (o : Option A) → is_some o ≡ false → o ≡ None
none_of None is = refl
none_of (Some a) is = absurd (false≢true (sym is))

-- the workers below this place have used no number from `next` on
abbrev pub Covers : List Worker → ℕ → ℕ → Type 0
Covers workers at next = (k : ℕ) (w : Worker) → k < at → slice_get workers k ≡ Some w → w.next ≤ next

pub next_covers : (workers : List Worker) (at next next' : ℕ) (item : Worker) → Covers workers at next → item ≡ slice_index_or workers at item → item.next ≤ next' → next ≤ next' → Covers workers (at + 1) next'
next_covers workers at next next' item below is one others k w b e = dite (ℕ_discrete k at)
    (λ z. let here : slice_get workers at ≡ Some w = ap (slice_get workers) (sym z) ∙ e in let same : item ≡ w = is ∙ (get_or_default workers at item w (slice_get_within workers at w here) ∙ get_or_from_slice_get workers at w w here) in let n = ap (λ (w : Worker). w.next) same in omega arith)
    (λ ne. let old = below k w (omega arith) e in omega arith)

pub all_cover : (workers : List Worker) (at next : ℕ) → length workers ≤ at → Covers workers at next → (k : ℕ) (w : Worker) → slice_get workers k ≡ Some w → w.next ≤ next
all_cover workers at next end below k w e = let b = slice_get_within workers k w e in below k w (omega arith) e

-- an entry of a caller is among that caller's own
in_own : (j : ℕ) (es : List Entry) (e : Entry) → caller_of e ≡ j → In e es → In e (own_of j es)
in_own j [] e is i = absurd i
in_own j (x ∷ es) e is i = dite (ℕ_discrete (caller_of x) j)
    (λ z. subst (In e) (sym (own_first j x es z)) (⊎_elim inl (λ t. inr (in_own j es e is t)) i))
    (λ ne. subst (In e) (sym (own_skip j x es ne)) (⊎_elim (λ s. absurd (ne (ap caller_of (sym s) ∙ is))) (in_own j es e is) i))

-- Workers whose passes were put back and made one, where they have used no number from `next` on
module _ (table : Table) (places : List Seating) (whole : Whole) (workers : List Worker) (next : ℕ) (all : AreWorkers table workers) (there : (k : ℕ) (w : Worker) → slice_get workers k ≡ Some w → slice_get places k ≡ Some (Here w.pass))
    (g : IsGathered table places whole) (few : (k : ℕ) (w : Worker) → slice_get workers k ≡ Some w → w.next ≤ next) where
  -- whoever put an event since then did so from its own source
  from_own : (j : ℕ) (e : Event) → In (Put j e) g.since → (e.src ≡ j) × ((w : Worker) → slice_get workers j ≡ Some w → In (Put j e) (caller table w.pass).own)
  from_own j e i = let b = g.inside (Put j e) i in let n = all.count in let v = some_at workers j (omega arith) in
      let mine : (w : Worker) → slice_get workers j ≡ Some w → In (Put j e) (caller table w.pass).own = λ w at. subst (In (Put j e)) (g.each j w.pass (there j w at)).1 (in_own j g.since (Put j e) refl i) in
      ((all.each j v.0 v.1).sourced j e (mine v.0 v.1) ∙ all.order j v.0 v.1, mine)

  -- so no event of the source k in the history has a number from `next` on
  pub history_below : (k : ℕ) (w : Worker) → slice_get workers k ≡ Some w → (j : ℕ) (e : Event) → In (Put j e) (history_of whole) → e.src ≡ k → e.seq < next
  history_below k w at j e i source = let h = g.each k w.pass (there k w at) in let is = all.each k w at in let low = few k w at in let number = all.order k w at in
      ⊎_elim (λ old. let b = is.numbered j e (inl old) (source ∙ sym number) in omega arith)
      (λ new. let f = from_own j e new in let same : j ≡ k = sym f.0 ∙ source in
      let mine : In (Put j e) (caller table w.pass).own = f.1 w (ap (slice_get workers) same ∙ at) in let b = is.numbered j e (inr mine) (source ∙ sym number) in omega arith)
      (in_either (caller table w.pass).deal.history g.since (Put j e) (subst (In (Put j e)) h.0 i))

  -- the workers of the passes that are dealt then
  module _ (start now : List Seating) (again : List Worker) (callers : ℕ) (rests : AreResting table start) (dealt : AreDealt table whole 1 start) (l : AreLifted next start now again callers) (is : table.start.layout.workers ≡ callers) where
    again_worker : (k : ℕ) (w : Worker) → slice_get again k ≡ Some w → IsWorker table w
    again_worker k w at = let e = (l.each k w at).0 in let d = dealt.each k w.pass e in let r = place_rests table start rests k w.pass e in let n = l.count in let c = all.count in let b = slice_get_within again k w at in let old = some_at workers k (omega arith) in
        let up : w.next ≡ next = (l.each k w at).1 in record {
          rests = r.1.rests;
          span = ap (λ d. d.span) d.deal;
          numbered = λ j f i same. ⊎_elim (λ i. let low = history_below k old.0 old.1 j f (subst (In (Put j f)) (ap (λ d. d.history) d.deal) i) (same ∙ r.0) in omega arith) (none_in _ _ d.own) i;
          sourced = λ j f i. none_in _ _ d.own i;
        }

    pub again_workers : AreWorkers table again
    again_workers = record {
      count = l.count ∙ sym is;
      order = λ k w at. (place_rests table start rests k w.pass (l.each k w at).0).0;
      each = again_worker;
    }
