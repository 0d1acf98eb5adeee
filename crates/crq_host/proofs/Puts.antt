-- Puts of one pass, one after another.
use Rattle.std.proofs.Common.{◌≡◌, ℕ, ◌+◌, ◌≤◌, inl, inr, List, [], ◌∷◌, ◌++◌, length, take, drop, refl, sym, ap, ◌∙◌, subst, append-nil, Some, None, slice_get, arith}
use Rattle.std.proofs.lemmas.List.{take_more, take_all, take-append-drop}
use Rattle.std.proofs.lemmas.Option.{slice_get_within, get_or_from_slice_get}
use Rattle.crq_base.specs.declared.event.Event.{Event}
use Rattle.crq_base.specs.declared.entry.Entry.{Entry}
use Rattle.crq_base.specs.declared.entry.Entry.TheVariants.{Begin, Put, Settled}
use Rattle.crq_base.specs.declared.answers.Short.{Short}
use Rattle.crq_base.specs.declared.answers.Short.TheVariants.{Rows, Epochs, Memory}
use Rattle.crq_base.specs.Histories.{put_of, puts}
use Rattle.crq_base.specs.Lists.{In}
use Rattle.crq_base.specs.Sources.{owner_of}
use Rattle.crq_base.proofs.Elements.{in_cases, in_contains}
use Rattle.crq_set.specs.Views.{PassView, Setup, MayPut}
use Rattle.crq_set.specs.Answers.{Adds, Puts, PutGaveUp}
use Rattle.crq_set.specs.Gathered.{IsDealt}
use Rattle.crq_host.specs.Workers.{AllAre, IsPutting, PutInTurn, MayPutAll, IsDue}
use Rattle.crq_host.proofs.Elements.{filter_map_in, in_take, at_in}
use Rattle.crq_host.proofs.Adding.{adds_none, adds_both, all_both, all_none, all_more, begins_all, puts_begun, puts_begins, all_begun, lacks_since}

-- the first i events were put
pub record Putting (old now : PassView) (due : List Event) (i : ℕ) : Type 0 where
  pub entries : List Entry
  pub adds : Adds old now entries
  pub steps : AllAre IsPutting entries
  pub done : puts entries ≡ take i due

pub putting_none : (v : PassView) (due : List Event) → Putting v v due 0
putting_none v due = record { entries = []; adds = adds_none v; steps = all_none IsPutting; done = refl }

pub putting_more : (old now next : PassView) (due : List Event) (i : ℕ) (e : Event) → Putting old now due i → slice_get due i ≡ Some e → Puts now next e → Putting old next due (i + 1)
putting_more old now next due i e p at (begins, are, adds) =
    let added : List Entry = Put now.number e ∷ Settled now.number e ∷ [] in record {
      entries = p.entries ++ (begins ++ (Begin now.number ∷ added));
      adds = adds_both old now next p.entries _ p.adds adds;
      steps = all_begun IsPutting now.number p.entries begins added (λ c. tt) are p.steps (all_more IsPutting (Put now.number e) (Settled now.number e ∷ []) tt (all_more IsPutting (Settled now.number e) [] tt (all_none IsPutting)));
      done = puts_begun now.number p.entries begins added are ∙ ap (λ es. es ++ e ∷ []) p.done ∙ ap (λ x. take i due ++ x ∷ []) (sym (get_or_from_slice_get due i e e at)) ∙ sym (take_more due i e (slice_get_within due i e at));
    }

-- the next event may be put
pub putting_may : (setup : Setup) (old now : PassView) (due : List Event) (i : ℕ) (e : Event) → MayPutAll setup old due → Putting old now due i → slice_get due i ≡ Some e → MayPut setup now e
putting_may setup old now due i e m p at =
    let each = m.each e (at_in e due i at) in (
      ap (λ s. owner_of setup.workers s e.src) p.adds.span ∙ each.0 ∙ sym p.adds.number,
      λ k f among src seq. elim among [
        | inl a ↦ each.1 k f (inl (subst (In (Put k f)) p.adds.dealt a)) src seq
        | inr b ↦ elim (in_cases (Put k f) old.own p.entries (subst (In (Put k f)) p.adds.own b)) [
          | inl c ↦ each.1 k f (inr c) src seq
          | inr d ↦ (let t = in_take f due i (subst (In f) p.done (filter_map_in put_of f (Put k f) p.entries d refl)) in
              let same : t.0 ≡ i = m.apart t.0 i f e t.2 at src seq in
              let before = t.1 in
              absurd (omega arith))
        ]
      ],
    )

pub put_ended : (setup : Setup) (old now : PassView) (due : List Event) (i : ℕ) → length due ≤ i → Putting old now due i → PutInTurn setup old now due None
put_ended setup old now due i le p = record {
  entries = p.entries;
  adds = p.adds;
  steps = p.steps;
  left = [];
  first = sym (append-nil (puts p.entries) ∙ p.done ∙ take_all i due le);
  all = (λ no. refl);
  why = tt;
}

pub put_short : (setup : Setup) (old now next : PassView) (due : List Event) (i : ℕ) (short : Short) → Putting old now due i → PutGaveUp setup now next short → PutInTurn setup old next due (Some short)
put_short setup old now next due i Rows p g = record {
  entries = p.entries ++ g.0;
  adds = adds_both old now next p.entries g.0 p.adds g.2;
  steps = all_both IsPutting p.entries g.0 p.steps (begins_all IsPutting now.number g.0 tt g.1);
  left = drop i due;
  first = sym (ap (λ es. es ++ drop i due) (puts_begins now.number p.entries g.0 g.1 ∙ p.done) ∙ take-append-drop i due);
  all = (λ no. absurd (cc));
  why = lacks_since setup now next p.entries g;
}
put_short setup old now next due i Epochs p ((begins, are, adds), lacks) = record {
  entries = p.entries ++ begins;
  adds = adds_both old now next p.entries begins p.adds adds;
  steps = all_both IsPutting p.entries begins p.steps (begins_all IsPutting now.number begins tt are);
  left = drop i due;
  first = sym (ap (λ es. es ++ drop i due) (puts_begins now.number p.entries begins are ∙ p.done) ∙ take-append-drop i due);
  all = (λ no. absurd (cc));
  why = lacks;
}
put_short setup old now next due i Memory p g = subst (λ v. PutInTurn setup old v due (Some Memory)) (sym g) (record {
  entries = p.entries;
  adds = p.adds;
  steps = p.steps;
  left = drop i due;
  first = sym (ap (λ es. es ++ drop i due) p.done ∙ take-append-drop i due);
  all = (λ no. absurd (cc));
  why = tt;
})

-- what is due to a worker may be put by the pass that was dealt to it
pub may_put_due : (setup : Setup) (span : ℕ) (h : List Entry) (k : ℕ) (v : PassView) (due : List Event) → IsDealt h span k v → IsDue setup.workers span h k due → MayPutAll setup v due
may_put_due setup span h k v due d is = record {
  each = (λ e i. (
    ap (λ s. owner_of setup.workers s e.src) d.sources ∙ is.owned e i ∙ sym d.number,
    λ c f among src seq. elim among [
      | inl a ↦ is.fresh e f i (in_contains f (puts h) (filter_map_in put_of f (Put c f) h (subst (In (Put c f)) d.dealt a) refl)) src seq
      | inr b ↦ absurd (subst (In (Put c f)) d.own b)
    ],
  ));
  apart = is.apart;
}
