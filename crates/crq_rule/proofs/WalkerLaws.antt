-- How the part on takes that walk stays.
use Rattle.std.proofs.Common.{◌≡◌, ◌≢◌, ◌⊎◌, ⊎_elim, inl, inr, ℕ, ◌<◌, ◌≤◌, List, [], ◌∷◌, ◌++◌, drop, Option, Some, None, sym, ◌∙◌, subst, arith}
use Rattle.std.proofs.lemmas.List.{length-append}
use Rattle.std.specs.List.{Contains}
use mathlib.Core.Logic.{dite}
use native.Mathlib.Decide.{ℕ_discrete}
use Rattle.crq_base.specs.declared.event.Event.{Event}
use Rattle.crq_base.specs.declared.entry.Entry.{Entry}
use Rattle.crq_base.specs.declared.entry.Entry.TheVariants.{Put}
use Rattle.crq_base.specs.declared.words.Link.{Link}
use Rattle.crq_base.specs.declared.words.Current.{Current}
use Rattle.crq_base.specs.Histories.{put_of, settled_of, taken_of, puts, settleds, outs, IsLegal}
use Rattle.crq_base.specs.Lists.{In}
use Rattle.crq_rule.specs.declared.debts.SettleDebt.{SettleDebt}
use Rattle.crq_rule.specs.declared.view.Sight.{Sight}
use Rattle.crq_rule.specs.declared.view.Stand.{Stand}
use Rattle.crq_rule.specs.declared.view.Walk.{Walk}
use Rattle.crq_rule.specs.Lists.{put}
use Rattle.crq_rule.specs.Parts.{rows_of}
use Rattle.crq_rule.specs.Ranks.{bucket, shape_of}
use Rattle.crq_rule.specs.HistoryParts.{Present, Takes, StandsFrom, Sees, Walks, walking, Walkers}
use Rattle.crq_rule.proofs.CoverLaws.{stand_row}
use Rattle.crq_rule.proofs.HistoryLaws.{only, settled_put}
use Rattle.crq_rule.proofs.Puts.{put_here, put_else}
use Rattle.crq_rule.proofs.Prefixes.{of_front, of_both, in_take, take_in, in_drop}

none_walk : (w : Walk) → None ≡ Some w → ⊥
none_walk w e = cc

none_sight : (s : Sight) → None ≡ Some s → ⊥
none_sight s e = cc

nothing : {e : Event} → Contains [] e → ⊥
nothing h = let k = h.1 in absurd (omega arith)

-- all that is known of the take of the caller k
abbrev take_of : Takes → ℕ → ℕ × ℕ × Option Sight × Option Walk × List Stand
take_of t k = (t.begun k, t.read k, t.sight k, t.walk k, t.rows k)

-- what was put since a take read the table, and is settled, is of a later bucket than that of current, if current is as it saw it and the table is open
abbrev pub IsAhead : Present → ℕ → Sight → Type 0
IsAhead now read s = s.current ≡ now.current → s.table.generation ≡ now.generation → (e : Event) → Contains (puts (drop read now.history)) e → Contains (settleds now.history) e
    → bucket (shape_of s.table) s.current.tick < bucket (shape_of s.table) e.time

abbrev pub AllAhead : Present → Takes → Type 0
AllAhead now takes = (k : ℕ) (s : Sight) → k < now.workers → takes.sight k ≡ Some s → IsAhead now (takes.read k) s

-- nothing that is put and settled is added with these entries
abbrev pub PutsNone : List Entry → List Entry → Type 0
PutsNone history more = (e : Event) → (Contains (puts more) e → Contains (settleds (history ++ more)) e → ⊥) × (Contains (settleds more) e → ⊥)

-- entries that neither put nor settle an event
pub silent : (history more : List Entry) → puts more ≡ [] → settleds more ≡ [] → PutsNone history more
silent history more no_put no_settled e = (λ i _. nothing (subst (λ z. Contains z e) no_put i), λ i. nothing (subst (λ z. Contains z e) no_settled i))

-- the put of an event that wasn't put before
pub new_put : (history : List Entry) (j : ℕ) (f : Event) → IsLegal history → (Contains (puts history) f → ⊥) → PutsNone history (Put j f ∷ [])
new_put history j f legal fresh e = (
  λ i settled. ⊎_elim (λ s. fresh (subst (Contains (puts history)) (only f e i) (settled_put history legal e s))) (λ n. nothing n) (of_both settled_of history (Put j f ∷ []) e settled),
  λ i. nothing i,
)

module _ (now : Present) (takes : Takes) (link : ℕ → Link) (event : ℕ → Event) where
  -- entries are added, where what is ahead then is known
  pub walkers_more : (more : List Entry) → AllAhead (record now { history = now.history ++ more }) takes → Walkers now takes link event → Walkers (record now { history = now.history ++ more }) takes link event
  walkers_more more ahead old = record {
    seen = λ k s b is. let v = old.seen k s b is in let begins = v.after.0 in let low = v.after.1 in record {
      after = (begins, let wide = length-append now.history more in omega arith);
      above = λ e settled kept. v.above e (in_take settled_of (takes.begun k) now.history more e (omega arith) settled) (λ o. kept (of_front taken_of now.history more e o));
      ahead = ahead k s b is;
      owed = λ i d c owes less. take_in put_of (takes.read k) now.history more d.event low (v.owed i d c owes less);
    };
    walked = λ k w b is. let v = old.walked k w b is in let low = (old.seen k v.0 b v.1).after.1 in (
      v.0,
      v.1,
      record {
        head = v.2.head;
        of = v.2.of;
        at_stand = v.2.at_stand;
        left = λ e put kept. v.2.left e (in_take put_of (takes.read k) now.history more e low put) (λ o. kept (of_front taken_of now.history more e o));
        done = λ none e put kept. v.2.done none e (in_take put_of (takes.read k) now.history more e low put) (λ o. kept (of_front taken_of now.history more e o));
        least = v.2.least;
      },
    );
  }

  -- entries are added, none of which is a put that is settled, nor settles an event
  pub walkers_grown : (more : List Entry) → PutsNone now.history more → Walkers now takes link event → Walkers (record now { history = now.history ++ more }) takes link event
  walkers_grown more none old = walkers_more more
      (λ k s b is same table e put settled. let v = old.seen k s b is in ⊎_elim (λ was. v.ahead same table e was (⊎_elim (λ s. s) (λ n. absurd ((none e).1 n)) (of_both settled_of now.history more e settled)))
      (λ n. absurd ((none e).0 n settled)) (in_drop put_of (takes.read k) now.history more e v.after.1 put)) old

  -- current or the table changes, where what is ahead then is known
  pub walkers_current : (generation : ℕ) (current : Current) → AllAhead (record now { generation = generation; current = current }) takes → Walkers now takes link event
      → Walkers (record now { generation = generation; current = current }) takes link event
  walkers_current generation current ahead old = record {
    seen = λ k s b is. let v = old.seen k s b is in record { after = v.after; above = v.above; ahead = ahead k s b is; owed = v.owed };
    walked = old.walked;
  }

  -- each event that is owed was owed, or is of no older table than any that a take read
  pub walkers_owing : (settling' : ℕ → Option SettleDebt) → ((i : ℕ) (d : SettleDebt) → i < now.workers → settling' i ≡ Some d → (now.settling i ≡ Some d) ⊎ ((k : ℕ) (s : Sight) → k < now.workers → takes.sight k ≡ Some s → s.table.generation ≤ d.generation))
      → Walkers now takes link event → Walkers (record now { settling = settling' }) takes link event
  walkers_owing settling' was old = record {
    seen = λ k s b is. let v = old.seen k s b is in
        record { after = v.after; above = v.above; ahead = v.ahead; owed = λ i d c owes less. ⊎_elim (λ o. v.owed i d c o less) (λ late. let low = late k s b is in absurd (omega arith)) (was i d c owes) };
    walked = old.walked;
  }

  -- links and events change. What stands from a row on which a caller stands does so still, unless it is out
  pub walkers_links : (link' : ℕ → Link) (event' : ℕ → Event) → ((k r : ℕ) → k < now.workers → In r (rows_of (takes.rows k)) → (link' r).generation ≡ (link r).generation)
      → ((k g at : ℕ) (e : Event) → k < now.workers → In at (rows_of (takes.rows k)) → (Contains (outs now.history) e → ⊥) → StandsFrom link event g at e → StandsFrom link' event' g at e)
      → Walkers now takes link event → Walkers now takes link' event'
  walkers_links link' event' same stays old = record {
    seen = old.seen;
    walked = λ k w b is. let v = old.walked k w b is in (
      v.0,
      v.1,
      record {
        head = v.2.head;
        of = v.2.of;
        at_stand = ⊎_elim inl (λ h. inr (h.0, same k w.at b h.0 ∙ h.1)) v.2.at_stand;
        left = λ e put kept of sought. let f = v.2.left e put kept of sought in
            stays k v.0.table.generation w.at e b (⊎_elim (λ z. let some = f.some_row in absurd (omega arith)) (λ h. h.0) v.2.at_stand) kept f;
        done = v.2.done;
        least = λ r e least. let l = v.2.least r e least in (l.0, same k r b (subst (λ z. In z (rows_of (takes.rows k))) l.0.2 (stand_row (takes.rows k) l.0.0 l.0.1)) ∙ l.1);
      },
    );
  }

  -- what is known of the take of one caller changes
  pub walkers_at : (j : ℕ) (takes' : Takes) → ((k : ℕ) → k ≢ j → take_of takes' k ≡ take_of takes k)
      → ((s : Sight) → j < now.workers → takes'.sight j ≡ Some s → Sees now (takes'.begun j) (takes'.read j) s)
      → ((w : Walk) → j < now.workers → takes'.walk j ≡ Some w → (s : Sight) × (takes'.sight j ≡ Some s) × Walks now.history link event (walking takes' j s w))
      → Walkers now takes link event → Walkers now takes' link event
  walkers_at j takes' same seen walked old = record {
    seen = λ k s. dite (ℕ_discrete k j) (λ e. subst (λ z. z < now.workers → takes'.sight z ≡ Some s → Sees now (takes'.begun z) (takes'.read z) s) (sym e) (seen s))
        (λ ne. subst (λ (z : ℕ × ℕ × Option Sight × Option Walk × List Stand). k < now.workers → z.2 ≡ Some s → Sees now z.0 z.1 s) (sym (same k ne)) (old.seen k s));
    walked = λ k w. dite (ℕ_discrete k j) (λ e. subst (λ z. z < now.workers → takes'.walk z ≡ Some w → (s : Sight) × (takes'.sight z ≡ Some s) × Walks now.history link event (walking takes' z s w)) (sym e) (walked w))
        (λ ne. subst (λ (z : ℕ × ℕ × Option Sight × Option Walk × List Stand). k < now.workers → z.3 ≡ Some w → (s : Sight) × (z.2 ≡ Some s) × Walks now.history link event (record { sight = s; read = z.1; walk = w; rows = z.4 }))
        (sym (same k ne)) (old.walked k w));
  }

  -- a caller gives up its walk, and moves
  pub walkers_stop : (j : ℕ) (ss : List Stand) → Walkers now takes link event → Walkers now (record takes { walk = put takes.walk j None; rows = put takes.rows j ss }) link event
  walkers_stop j ss old = walkers_at j (record takes { walk = put takes.walk j None; rows = put takes.rows j ss })
      (λ k ne i. (takes.begun k, takes.read k, takes.sight k, put_else takes.walk j None k ne i, put_else takes.rows j ss k ne i))
      (λ s. old.seen j s) (λ w _ is. absurd (none_walk w (sym (put_here takes.walk j None) ∙ is))) old

  -- or stays where it is
  pub walkers_rest : (j : ℕ) → Walkers now takes link event → Walkers now (record takes { walk = put takes.walk j None }) link event
  walkers_rest j old = walkers_at j (record takes { walk = put takes.walk j None }) (λ k ne i. (takes.begun k, takes.read k, takes.sight k, put_else takes.walk j None k ne i, takes.rows k))
      (λ s. old.seen j s) (λ w _ is. absurd (none_walk w (sym (put_here takes.walk j None) ∙ is))) old

  -- or begins a new call
  pub walkers_begin : (j m : ℕ) → Walkers now takes link event → Walkers now (record takes { begun = put takes.begun j m; sight = put takes.sight j None; walk = put takes.walk j None }) link event
  walkers_begin j m old = walkers_at j (record takes { begun = put takes.begun j m; sight = put takes.sight j None; walk = put takes.walk j None })
      (λ k ne i. (put_else takes.begun j m k ne i, takes.read k, put_else takes.sight j None k ne i, put_else takes.walk j None k ne i, takes.rows k))
      (λ s _ is. absurd (none_sight s (sym (put_here takes.sight j None) ∙ is))) (λ w _ is. absurd (none_walk w (sym (put_here takes.walk j None) ∙ is))) old
