-- Takes of one pass, one after another.
use Rattle.std.proofs.Common.{◌≡◌, ℕ, ◌<◌, List, [], ◌∷◌, ◌++◌, refl, sym, ap, ◌∙◌, subst, append_assoc, append-nil, Option, Some, None}
use Rattle.crq_base.specs.declared.event.Event.{Event}
use Rattle.crq_base.specs.declared.entry.Entry.{Entry}
use Rattle.crq_base.specs.declared.entry.Entry.TheVariants.{Begin, Take, Miss}
use Rattle.crq_base.specs.declared.answers.Short.{Short}
use Rattle.crq_base.specs.declared.answers.Short.TheVariants.{Rows, Epochs, Memory}
use Rattle.crq_base.specs.Histories.{outs}
use Rattle.crq_set.specs.Views.{PassView, Setup}
use Rattle.crq_set.specs.Answers.{Adds, AddsBegun, TakeGaveUp}
use Rattle.crq_host.specs.Workers.{AllAre, IsTaking, Took}
use Rattle.crq_host.proofs.Adding.{adds_none, adds_both, all_both, all_none, all_more, begins_all, outs_begun, outs_begins, all_begun, lacks_since}

-- so far all takes took, and their events stand behind the first ones
pub record Taking (limit : ℕ) (old now : PassView) (first items : List Event) : Type 0 where
  pub events : List Event
  pub entries : List Entry
  pub grows : items ≡ first ++ events
  pub adds : Adds old now entries
  pub steps : AllAre (IsTaking limit) entries
  pub takes : outs entries ≡ events

-- how the takes ended
abbrev pub TookOn : Setup → ℕ → PassView → PassView → List Event → List Event → Option Short → Type 0
TookOn setup limit old new first items short = (events : List Event) × (items ≡ first ++ events) × Took setup limit old new events short

pub taking_none : (limit : ℕ) (v : PassView) (first : List Event) → Taking limit v v first first
taking_none limit v first = record { events = []; entries = []; grows = sym (append-nil first); adds = adds_none v; steps = all_none (IsTaking limit); takes = refl }

pub taking_more : (limit : ℕ) (old now next : PassView) (first items : List Event) (e : Event) → Taking limit old now first items → e.time < limit → AddsBegun now next (Take now.number e ∷ [])
    → Taking limit old next first (items ++ e ∷ [])
taking_more limit old now next first items e t below (begins, are, adds) = record {
  events = t.events ++ e ∷ [];
  entries = t.entries ++ (begins ++ (Begin now.number ∷ Take now.number e ∷ []));
  grows = ap (λ zs. zs ++ e ∷ []) t.grows ∙ append_assoc first t.events (e ∷ []);
  adds = adds_both old now next t.entries _ t.adds adds;
  steps = all_begun (IsTaking limit) now.number t.entries begins (Take now.number e ∷ []) (λ c. tt) are t.steps (all_more (IsTaking limit) (Take now.number e) [] below (all_none (IsTaking limit)));
  takes = outs_begun now.number t.entries begins (Take now.number e ∷ []) are ∙ ap (λ zs. zs ++ e ∷ []) t.takes;
}

pub took_missed : (setup : Setup) (limit : ℕ) (old now next : PassView) (first items : List Event) → Taking limit old now first items → AddsBegun now next (Miss now.number limit ∷ []) → TookOn setup limit old next first items None
took_missed setup limit old now next first items t (begins, are, adds) = (
  t.events,
  t.grows,
  record {
    entries = t.entries ++ (begins ++ (Begin now.number ∷ Miss now.number limit ∷ []));
    adds = adds_both old now next t.entries _ t.adds adds;
    steps = all_begun (IsTaking limit) now.number t.entries begins (Miss now.number limit ∷ []) (λ c. tt) are t.steps (all_more (IsTaking limit) (Miss now.number limit) [] tt (all_none (IsTaking limit)));
    takes = outs_begun now.number t.entries begins (Miss now.number limit ∷ []) are ∙ append-nil (outs t.entries) ∙ t.takes;
    missed = (λ no. (t.entries ++ begins, sym (append_assoc t.entries begins (Begin now.number ∷ Miss now.number limit ∷ [])) ∙ ap (λ n. (t.entries ++ begins) ++ (Begin n ∷ Miss n limit ∷ [])) t.adds.number));
    why = tt;
  },
)

pub took_memory : (setup : Setup) (limit : ℕ) (old now : PassView) (first items : List Event) → Taking limit old now first items → TookOn setup limit old now first items (Some Memory)
took_memory setup limit old now first items t = (t.events, t.grows, record { entries = t.entries; adds = t.adds; steps = t.steps; takes = t.takes; missed = (λ no. absurd (cc)); why = tt })

pub took_short : (setup : Setup) (limit : ℕ) (old now next : PassView) (first items : List Event) (short : Short) → Taking limit old now first items → TakeGaveUp setup now next short → TookOn setup limit old next first items (Some short)
took_short setup limit old now next first items Rows t g = (
  t.events,
  t.grows,
  record {
    entries = t.entries ++ g.0;
    adds = adds_both old now next t.entries g.0 t.adds g.2;
    steps = all_both (IsTaking limit) t.entries g.0 t.steps (begins_all (IsTaking limit) now.number g.0 tt g.1);
    takes = outs_begins now.number t.entries g.0 g.1 ∙ t.takes;
    missed = (λ no. absurd (cc));
    why = lacks_since setup now next t.entries g;
  },
)
took_short setup limit old now next first items Epochs t g = absurd g
took_short setup limit old now next first items Memory t g = subst (λ v. TookOn setup limit old v first items (Some Memory)) (sym g) (took_memory setup limit old now first items t)
