-- How the parts on the sizes of tables stay, and what they say of lists.
use Rattle.std.proofs.Common.{◌≡◌, ◌⊎◌, ⊎_elim, ℕ, ◌<◌, ◌≤◌, ap, sym, subst}
use Rattle.crq_base.specs.declared.event.Event.{Event}
use Rattle.crq_base.specs.declared.words.Link.{Link}
use Rattle.crq_base.specs.declared.words.Control.{Control}
use Rattle.crq_rule.specs.declared.debts.SettleDebt.{SettleDebt}
use Rattle.crq_rule.specs.declared.debts.CopyDebt.{CopyDebt}
use Rattle.crq_rule.specs.declared.debts.CutDebt.{CutDebt}
use Rattle.crq_rule.specs.declared.layout.Start.{Start}
use Rattle.std.specs.Prelude.{Option}
use Rattle.crq_rule.specs.Places.{IsRow, IsHead}
use Rattle.crq_rule.specs.Core.{Holding, IsOutside, DeadNames, HasName}
use Rattle.crq_rule.specs.Parts.{newest, Fits}
use Rattle.crq_rule.specs.Ranks.{Shape, head_in, list_in, head_of}
use Rattle.crq_rule.specs.ListParts.{Sizes, Dues}

-- the list of an event by a control word is that by its generation's shape
pub fitting_list : (start : Start) (control : Control) (shape : ℕ → Shape) (x : Control) → Fits start control shape x → (e : Event) → list_in shape x.generation e ≡ head_of x e
fitting_list start control shape x fits e = ap (λ s. head_in x.generation s e) fits.size

module _ (start : Start) (control : Control) (shape : ℕ → Shape) (head link : ℕ → Link) (holding : ℕ → Holding) where
  -- each row that is outside hands was so, and is of the table of before, or is of no later one than the newest
  pub sizes_rows : (head' link' : ℕ → Link) (holding' : ℕ → Holding) → ((q : ℕ) → IsHead q → (head' q).generation ≡ (head q).generation)
      → ((r : ℕ) → IsRow start.layout r → IsOutside holding' r → (IsOutside holding r × ((link' r).generation ≡ (link r).generation)) ⊎ ((link' r).generation ≤ newest control))
      → Sizes start control shape head link holding → Sizes start control shape head' link' holding'
  sizes_rows head' link' holding' same was old = record {
    now = old.now;
    heads = λ q b. subst (λ g. g ≤ newest control) (sym (same q b)) (old.heads q b);
    rows = λ r b out. ⊎_elim (λ h. subst (λ g. g ≤ newest control) (sym h.1) (old.rows r b h.0)) (λ low. low) (was r b out);
  }

-- each name was there, or is of a table that there is
pub dues_named : (n : ℕ) (control : Control) (shape : ℕ → Shape) (settling : ℕ → Option SettleDebt) (copying : ℕ → Option CopyDebt) (names names' : ℕ → DeadNames)
    → ((k : ℕ) (d : CutDebt) → k < n → HasName (names' k) d → HasName (names k) d ⊎ ((d.generation ≤ newest control) × (d.head ≡ list_in shape d.generation d.event)))
    → Dues n control shape settling copying names → Dues n control shape settling copying names'
dues_named n control shape settling copying names names' was old = record { settles = old.settles; copies = old.copies; named = λ k d b has. ⊎_elim (old.named k d b) (λ fits. fits) (was k d b has) }
