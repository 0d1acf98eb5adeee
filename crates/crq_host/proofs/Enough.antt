-- In a run that nothing stops there are rows and epochs enough.
use Rattle.std.proofs.Common.{◌≡◌, ℕ, ◌+◌, ◌*◌, ◌^◌, ◌-◌, ◌<◌, ◌≤◌, List, [], ◌∷◌, ◌++◌, length, refl, arith, ap, sym, subst, inl, inr, Contains}
use Rattle.std.proofs.lemmas.List.{length-append, append-nil, append_assoc}
use Rattle.std.proofs.lemmas.List.Elements.{Contains-append_left}
use Rattle.crq_base.specs.declared.event.Event.{Event}
use Rattle.crq_base.specs.declared.entry.Entry.{Entry}
use Rattle.crq_base.specs.declared.entry.Entry.TheVariants.{Begin, Put, Settled, Take, Miss, Table}
use Rattle.crq_base.specs.Histories.{put_of, puts, settleds, IsPending, MayFollow, IsLegalAfter, IsLegal, table_count, raising_count}
use Rattle.crq_base.specs.Lists.{In, IsOnce}
use Rattle.crq_base.proofs.Deeds.{done_at}
use Rattle.crq_base.proofs.HistoryLaws.{puts-append, settleds-append}
use Rattle.crq_base.proofs.Elements.{in_cases, contains_in, in_contains}
use Rattle.crq_set.specs.Views.{Setup}
use Rattle.crq_sim.specs.declared.model.TheConstants.{MOST_STARTS}
use Rattle.crq_sim.specs.Models.{ModelData, IsModel}
use Rattle.crq_sim.specs.Runs.{events_sent, scheduled_starts, beginning}
use Rattle.crq_sim.proofs.BoundLemmas.{few_sent, few_starts}
use Rattle.crq_sim.proofs.Sound.{begins}
use Rattle.crq_host.specs.Phases.{LacksRowsFor}
use Rattle.crq_host.specs.Progress.{sent_within}
use Rattle.crq_host.proofs.Members.{fits, once_join}

-- Rows

-- as many rows as twice the pending events and two: no list of pending events is so long that rows are lacking
pub rows_enough : (setup : Setup) (history : List Entry) (pending : List Event) → ((x : Event) → IsPending history x → Contains pending x) → 2 * length pending + 2 ≤ setup.rows → LacksRowsFor setup history → ⊥
rows_enough setup history pending within enough lacks =
    let few = fits lacks.events pending lacks.once (λ x at. contains_in x pending (within x (lacks.pending x at))) in
    let many = lacks.many in
    omega arith

-- Epochs

one_settled : (h : List Entry) (x : Entry) (e : Event) → MayFollow h x → In e (settleds (x ∷ [])) → In e (settleds h) → ⊥
one_settled h (Settled k f) e may (inl same) at = may.1 (in_contains f (settleds h) (subst (λ z. In z (settleds h)) same at))
one_settled h (Settled k f) e may (inr none) at = none
one_settled h (Begin k) e may none at = none
one_settled h (Put k f) e may none at = none
one_settled h (Take k f) e may none at = none
one_settled h (Miss k l) e may none at = none
one_settled h (Table k l s) e may none at = none

once_one : (x : Entry) → IsOnce (settleds (x ∷ []))
once_one (Settled k f) = ((λ at. at), tt)
once_one (Begin k) = tt
once_one (Put k f) = tt
once_one (Take k f) = tt
once_one (Miss k l) = tt
once_one (Table k l s) = tt

here_put : (h : List Entry) (k : ℕ) (f : Event) → Contains h (Put k f) → Contains (puts h) f
here_put h k f at = done_at put_of h at.0 (Put k f) f at.1 (ap put_of at.2)

put_before : (h : List Entry) (x : Entry) (e : Event) → MayFollow h x → In e (settleds (x ∷ [])) → Contains (puts h) e
put_before h (Settled k f) e may (inl same) = subst (Contains (puts h)) (sym same) (here_put h k f may.0)
put_before h (Settled k f) e may (inr none) = absurd none
put_before h (Begin k) e may none = absurd none
put_before h (Put k f) e may none = absurd none
put_before h (Take k f) e may none = absurd none
put_before h (Miss k l) e may none = absurd none
put_before h (Table k l s) e may none = absurd none

-- what is settled in a history is there once, and was put
pub record AreSettled (h : List Entry) : Type 0 where
  pub once : IsOnce (settleds h)
  pub put : (e : Event) → In e (settleds h) → Contains (puts h) e

settled_more : (h : List Entry) (x : Entry) → MayFollow h x → AreSettled h → AreSettled (h ++ x ∷ [])
settled_more h x may are = record {
  once = subst IsOnce (sym (settleds-append h (x ∷ []))) (once_join (settleds h) (settleds (x ∷ [])) are.once (once_one x) (λ e at here. one_settled h x e may here at));
  put = (λ e at. subst (λ z. Contains z e) (sym (puts-append h (x ∷ []))) (Contains-append_left (puts h) (puts (x ∷ [])) e
      (elim (in_cases e (settleds h) (settleds (x ∷ [])) (subst (In e) (settleds-append h (x ∷ [])) at)) [
        | inl before ↦ are.put e before
        | inr here ↦ put_before h x e may here
      ])));
}

all_settled : (h es : List Entry) → IsLegalAfter h es → AreSettled h → AreSettled (h ++ es)
all_settled h [] legal are = subst AreSettled (sym (append-nil h)) are
all_settled h (x ∷ es) legal are = subst AreSettled (append_assoc h (x ∷ []) es) (all_settled (h ++ x ∷ []) es legal.1 (settled_more h x legal.0 are))

pub settled_once : (h : List Entry) → IsLegal h → AreSettled h
settled_once h legal = all_settled [] h legal (record { once = tt; put = (λ e at. absurd at) })

-- the entries that raise the epoch of current are the settled events and the tables
pub raising_parts : (h : List Entry) → raising_count h ≡ length (settleds h) + table_count h
raising_parts [] = refl
raising_parts (Settled k f ∷ h) = (let rest = raising_parts h in omega arith)
raising_parts (Table k l s ∷ h) = (let rest = raising_parts h in omega arith)
raising_parts (Begin k ∷ h) = raising_parts h
raising_parts (Put k f ∷ h) = raising_parts h
raising_parts (Take k f ∷ h) = raising_parts h
raising_parts (Miss k l ∷ h) = raising_parts h

-- a run sends so much at most
sent_few : (m : ModelData) (n : ℕ) → IsModel m → length (sent_within m n) ≤ MOST_STARTS + 4 * n
sent_few m n is =
    let starts = few_starts m.until 0 m.starts in
    let sent = few_sent m (beginning m) n is (begins m is) in
    let both = length-append (scheduled_starts m.until 0 m.starts) (events_sent m (beginning m) n) in
    let most = is.few_starts in
    omega arith

-- no set of a run has so many settled events that its epoch has no room left
pub epochs_enough : (m : ModelData) (n : ℕ) (h : List Entry) → IsModel m → IsLegal h → table_count h ≡ 0 → ((x : Event) → Contains (puts h) x → Contains (sent_within m n) x) → n ≤ 4194304 → raising_count h < 2 ^ 32 - 64
epochs_enough m n h is legal tables within few =
    let are = settled_once h legal in
    let many = fits (settleds h) (sent_within m n) are.once (λ x at. contains_in x (sent_within m n) (within x (are.put x at))) in
    let most = sent_few m n is in
    let parts = raising_parts h in
    omega arith
