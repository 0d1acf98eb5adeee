-- How the parts on stands and lanes stay where a caller changes its guard or leaves, and how the parts that read holders stay where a row changes that isn't listed.
use Rattle.std.proofs.Common.{◌≡◌, ◌≢◌, ℕ, ◌<◌, List, [], ◌∷◌, ◌++◌, Option, Some, None, sym, ap, ◌∙◌, inl}
use Rattle.crq_base.specs.declared.event.Event.{Event}
use Rattle.crq_base.specs.declared.entry.Entry.{Entry}
use Rattle.crq_base.specs.declared.words.Link.{Link}
use Rattle.crq_base.specs.declared.words.Control.{Control}
use Rattle.crq_rule.specs.declared.layout.Layout.{Layout}
use Rattle.crq_base.specs.declared.words.Mark.TheVariants.{Mov}
use Rattle.crq_rule.specs.declared.view.Guard.{Guard}
use Rattle.crq_rule.specs.declared.view.Stand.{Stand}
use Rattle.crq_rule.specs.declared.view.Wrote.{Wrote}
use Rattle.crq_rule.specs.Lists.{put}
use Rattle.crq_rule.specs.Places.{IsRow}
use Rattle.crq_rule.specs.Core.{Holding, IsOutside, DeadNames, listed}
use Rattle.crq_rule.specs.Parts.{Covers, Ground, IsGuarded}
use Rattle.crq_rule.specs.ListParts.{Marks, MarkFits, StandFits, Standing, Copying, Lanes, Writing, Naming}
use Rattle.crq_rule.specs.HistoryParts.{Carriers, IsLive}
use Rattle.crq_rule.specs.Ranks.{Shape}
use Rattle.crq_base.specs.Histories.{outs}
use Rattle.crq_base.specs.Lists.{In}
use Rattle.crq_rule.proofs.Puts.{put_else, put_all, snoc_in}
use Rattle.crq_rule.proofs.PartLaws.{sort}
use Rattle.crq_rule.proofs.CoverLaws.{covered_guard, covered_less}

module _ (l : Layout) (shape : ℕ → Shape) (ground : Ground) (event : ℕ → Event) where
  -- lanes, where what is covered was covered before
  pub lanes_before : (guard' : ℕ → Guard) (footing' : ℕ → List ℕ) → ((k g r : ℕ) → Covers (record ground { guard = guard'; footing = footing' }) k g r → Covers ground k g r)
      → Lanes l shape ground event → Lanes l shape (record ground { guard = guard'; footing = footing' }) event
  lanes_before guard' footing' before old = record {
    is_row = λ r v. old.is_row r (was r v);
    rises = λ r v. old.rises r (was r v);
    stays = λ r v. old.stays r (was r v);
    generation = λ r v. old.generation r (was r v);
    twins = λ r v. old.twins r (was r v);
  }
    where
      was : (r : ℕ) → IsGuarded (record ground { guard = guard'; footing = footing' }) r → IsGuarded ground r
      was r v = (v.0, v.1, before v.0 v.1 r v.2)

  pub lanes_guard : (j : ℕ) (g : Guard) → (j < ground.workers → ground.footing j ≡ []) → Lanes l shape ground event → Lanes l shape (record ground { guard = put ground.guard j g }) event
  lanes_guard j g none = lanes_before (put ground.guard j g) ground.footing (covered_guard ground j g none)

  pub lanes_less : (footing : ℕ → List ℕ) → ((k a : ℕ) → In a (footing k) → In a (ground.footing k)) → Lanes l shape ground event → Lanes l shape (record ground { footing = footing }) event
  lanes_less footing less = lanes_before ground.guard footing (covered_less ground footing less)

-- a caller comes to stand nowhere
pub standing_nowhere : (n : ℕ) (head link : ℕ → Link) (twin : ℕ → ℕ) (event : ℕ → Event) (rows : ℕ → List Stand) (j : ℕ) → Standing n head link twin event rows → Standing n head link twin event (put rows j [])
standing_nowhere n head link twin event rows j old = record { each = λ k s. put_all rows j [] (λ k ss. k < n → In s ss → StandFits head link twin event s) (λ _ i. absurd i) (λ k _. old.each k s) k }

none_old : (s : Stand) → None ≡ Some s → ⊥
none_old s e = cc

pub copying_nowhere : (n : ℕ) (head link : ℕ → Link) (twin : ℕ → ℕ) (event : ℕ → Event) (old : ℕ → Option Stand) (j : ℕ) → Copying n head link twin event old → Copying n head link twin event (put old j None)
copying_nowhere n head link twin event old j was = record {
  each = λ k s. put_all old j None (λ k o. k < n → o ≡ Some s → StandFits head link twin event s × ((link s.row).mark ≡ Mov)) (λ _ e. absurd (none_old s e)) (λ k _. was.each k s) k;
}

-- A row changes hands and isn't listed, neither before nor after
module _ (l : Layout) (link : ℕ → Link) (twin : ℕ → ℕ) (holding : ℕ → Holding) (r : ℕ) (h : Holding) where
  listed_stays : sort (holding r) ≢ 1 → sort h ≢ 1 → (s q : ℕ) → holding s ≡ listed q → put holding r h s ≡ listed q
  listed_stays was is s q e = put_else holding r h s (λ z. was (ap (λ y. sort (holding y)) (sym z) ∙ ap sort e)) ∙ e

  listed_was : sort h ≢ 1 → (s q : ℕ) → put holding r h s ≡ listed q → holding s ≡ listed q
  listed_was is s q = put_all holding r h (λ s g. g ≡ listed q → holding s ≡ listed q) (λ e. absurd (is (ap sort e))) (λ s _ e. e) s

  live_stays : sort (holding r) ≢ 1 → sort h ≢ 1 → (s : ℕ) → IsLive l link twin holding s → IsLive l link twin (put holding r h) s
  live_stays was is s v = (v.0, (v.1.0, listed_stays was is s v.1.0 v.1.1), v.2)

  live_was : sort h ≢ 1 → (s : ℕ) → IsLive l link twin (put holding r h) s → IsLive l link twin holding s
  live_was is s v = (v.0, (v.1.0, listed_was is s v.1.0 v.1.1), v.2)

  pub marks_held : (control : Control) (head : ℕ → Link) → sort h ≢ 1 → (IsRow l r → MarkFits h (link r).mark) → ((s : ℕ) → IsOutside (put holding r h) s → IsOutside holding s)
      → Marks l control head link twin holding → Marks l control head link twin (put holding r h)
  marks_held control head is fits outs old = record {
    mark = put_all holding r h (λ s g. IsRow l s → MarkFits g (link s).mark) fits (λ s _. old.mark s);
    first = λ q s b at. old.first q s b (listed_was is s q at);
    bare = λ s b out. old.bare s b (outs s out);
    aged = λ s b out. old.aged s b (outs s out);
  }

  pub naming_held : (head : ℕ → Link) (event : ℕ → Event) (names : ℕ → DeadNames) → sort h ≢ 1 → Naming l head link event names holding → Naming l head link event names (put holding r h)
  naming_held head event names is old = record { named = λ s q b e. old.named s q b (listed_was is s q e); place = old.place }

  pub carriers_held : (history : List Entry) (event : ℕ → Event) → sort (holding r) ≢ 1 → sort h ≢ 1 → Carriers l history link twin event holding → Carriers l history link twin event (put holding r h)
  carriers_held history event was is old = record {
    carried = λ e p. let c = old.carried e p in (c.0, live_stays was is c.0 c.1, c.2);
    pending = λ s v. old.pending s (live_was is s v);
    one = λ s t v w. old.one s t (live_was is s v) (live_was is t w);
  }

-- a caller takes one more row in hand
pub writing_more : (n : ℕ) (link : ℕ → Link) (twin : ℕ → ℕ) (event : ℕ → Event) (hand : ℕ → List ℕ) (written : ℕ → List Wrote) (j r : ℕ) → Writing n link twin event hand written → Writing n link twin event (put hand j (hand j ++ r ∷ [])) written
writing_more n link twin event hand written j r old = record {
  placed = old.placed;
  in_hand_is = λ k x. put_all hand j (hand j ++ r ∷ []) (λ k xs. k < n → In x (written k) → In x.row xs) (λ b i. snoc_in (hand j) r x.row (inl (old.in_hand_is j x b i))) (λ k _. old.in_hand_is k x) k;
  stands = old.stands;
}
