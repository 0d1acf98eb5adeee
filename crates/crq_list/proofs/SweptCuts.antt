-- A cut of a row past which the list was swept while it was present: what each step of its walk leaves, and its end.
use Rattle.std.proofs.Common.{◌≡◌, ◌≢◌, ⊎_elim, inl, inr, ℕ, ◌<◌, ◌≤◌, true, Some, sym, refl, ap, ◌∙◌, subst, arith}
use Rattle.std.proofs.lemmas.Bool.{false≢true}
use Rattle.crq_base.specs.declared.event.Event.{Event}
use Rattle.crq_base.specs.declared.words.Control.{Control}
use Rattle.crq_rule.specs.declared.pass.Pass.{Pass}
use Rattle.crq_rule.specs.declared.pass.Table.{Table}
use Rattle.crq_rule.specs.declared.view.Caller.{Caller}
use Rattle.crq_rule.specs.Core.{HasName, names_of}
use Rattle.crq_rule.specs.Ranks.{rank, at_head, at_row}
use Rattle.crq_rule.specs.ListKinds.{StandsOn}
use Rattle.crq_rows.specs.Passes.{caller}
use Rattle.crq_list.specs.declared.parts.Spot.{Spot}
use Rattle.crq_list.specs.declared.parts.Progress.{Progress}
use Rattle.crq_list.specs.declared.parts.Progress.TheVariants.{More, Done}
use Rattle.crq_list.specs.declared.seek.SeekState.{SeekState}
use Rattle.crq_list.specs.declared.seek.SeekState.TheVariants.{Load, Reading, Passing, Cutting, Tagging, Retiring}
use Rattle.crq_list.specs.declared.seek.Sought.{Sought}
use Rattle.crq_list.specs.declared.seek.SeekEnd.{SeekEnd}
use Rattle.crq_list.specs.declared.seek.SeekEnd.TheVariants.{There, Frozen as FoundFrozen}
use Rattle.crq_list.specs.declared.cut.CutEnd.TheVariants.{Clean}
use Rattle.crq_list.specs.declared.cut.CutOp.{CutOp}
use Rattle.crq_list.specs.Spots.{Target, IsUpTo, IsAfter}
use Rattle.crq_list.specs.Seeking.{IsSeeking, SeekStepped, is_on_way}
use Rattle.crq_list.specs.Cutting.{IsOnRow, CutsSwept, IsCutting, CutStepped, follows, progress_of}
use Rattle.crq_list.proofs.SweepLaws.{sweep_stays, past_on}
use Rattle.crq_list.proofs.SeekSteps.{cut_ends, cut_frozen, one_target}

module _ (n : ℕ) (table : Table) (x : Control) (sought : Sought) (old new : Pass) where
  -- a row that comes after the target isn't the one that is cut
  is_another : (target : Target) (e f : Event) (r s t : ℕ) → target ≡ Some (e, r) → IsUpTo target f s → rank e r < rank f t → t ≢ s
  is_another target e f r s t is low less same = let even = ap (rank f) same in let most : rank f s ≤ rank e r = subst (λ z. IsUpTo z f s) is low in omega arith

  -- on the way to the retirement of the row
  on_way : (seek seek' : SeekState) (answer : Progress SeekEnd) → SeekStepped n table x sought seek seek' old new answer → IsSeeking n table x sought seek (caller table old)
      → CutsSwept n table.start.layout sought seek (caller table old) → follows seek seek' ≡ true → CutsSwept n table.start.layout sought seek' (caller table new)
  on_way (Load spot) seek' answer s at c goes = absurd (false≢true goes)
  on_way (Reading b place) seek' answer s at c goes = absurd (false≢true goes)
  on_way (Passing b) (Load spot) answer s at c goes = absurd (false≢true goes)
  on_way (Passing b) (Reading b' place) answer s at c goes = absurd (false≢true goes)
  on_way (Passing b) (Passing b') answer s at c goes = absurd (false≢true goes)
  on_way (Passing b) (Cutting b' last) answer s at c goes = record {
    event = c.event;
    row = c.row;
    target_is = c.target_is;
    past = past_on n table.start.layout sought.list.head c.event c.row (caller table old) (caller table new) s.works.step s.works.made at.counted (λ t f less on. s.keeps.1 t f on) c.past;
    at = s.keeps.0 ∙ c.at;
  }
  on_way (Passing b) (Tagging spot row) answer s at c goes = absurd (false≢true goes)
  on_way (Passing b) (Retiring spot row tag) answer s at c goes = absurd (false≢true goes)
  on_way (Cutting b last) (Load spot) answer s at c goes = absurd (false≢true goes)
  on_way (Cutting b last) (Reading b' place) answer s at c goes = absurd (false≢true goes)
  on_way (Cutting b last) (Passing b') answer s at c goes = absurd (false≢true goes)
  on_way (Cutting b last) (Cutting b' last') answer s at c goes = absurd (false≢true goes)
  on_way (Cutting b last) (Tagging spot row) answer s at c goes = record {
    event = c.event;
    row = c.row;
    target_is = c.target_is;
    past = past_on n table.start.layout sought.list.head c.event c.row (caller table old) (caller table new) s.works.step s.works.made at.counted
        (λ t f less on. s.keeps.0 t f (λ same. is_another sought.target c.event f c.row b.link.row t c.target_is (at.at.1.up_to f (subst (λ z. StandsOn (caller table old).position.rows z f) same on)) less same) on) c.past;
    at = λ d owed same. s.keeps.1 d owed (same ∙ sym c.at);
  }
  on_way (Cutting b last) (Retiring spot row tag) answer s at c goes = absurd (false≢true goes)
  on_way (Tagging spot row) (Load spot') answer s at c goes = absurd (false≢true goes)
  on_way (Tagging spot row) (Reading b place) answer s at c goes = absurd (false≢true goes)
  on_way (Tagging spot row) (Passing b) answer s at c goes = absurd (false≢true goes)
  on_way (Tagging spot row) (Cutting b last) answer s at c goes = absurd (false≢true goes)
  on_way (Tagging spot row) (Tagging spot' row') answer s at c goes = absurd (false≢true goes)
  on_way (Tagging spot row) (Retiring spot' row' tag) answer s at c goes = record {
    event = c.event;
    row = c.row;
    target_is = c.target_is;
    past = past_on n table.start.layout sought.list.head c.event c.row (caller table old) (caller table new) s.works.step s.works.made at.counted (λ t f less on. subst (λ ss. StandsOn ss t f) (sym s.keeps.0) on) c.past;
    at = λ d owed. c.at d (subst (λ z. HasName (names_of z) d) s.keeps.1 owed);
  }
  on_way (Retiring spot row tag) seek' answer s at c goes = absurd (false≢true goes)

-- a cut that is on the way to retire its row
pub row_on_way : (seek : SeekState) (r : ℕ) (p : Caller) → IsOnRow seek r p → is_on_way seek ≡ true
row_on_way (Load spot) r p on = absurd on
row_on_way (Reading b place) r p on = absurd on
row_on_way (Passing b) r p on = refl
row_on_way (Cutting b last) r p on = refl
row_on_way (Tagging spot row) r p on = refl
row_on_way (Retiring spot row tag) r p on = refl

module _ (n : ℕ) (table : Table) (x : Control) (op : CutOp) (old new : Pass) where
  -- a step that isn't the retirement of the row: the cut goes on so only where it is still on the way there
  pub swept_told : (seek' : SeekState) (answer : Progress SeekEnd) → op.swept ≡ true → IsCutting n table x op (caller table old) → SeekStepped n table x op.sought op.state seek' old new answer
      → CutStepped n table x op (record op { state = seek'; swept = follows op.state seek' }) old new (progress_of answer)
  swept_told seek' More swept at s = record {
    is = s.is;
    works = s.works;
    kind = s.kind;
    copying = s.copying;
    turns = s.turns;
    number = s.number;
    free = s.free;
    debts = s.debts;
    own = s.own;
    owed = s.owed;
    answers = ((s.answers.0, λ goes. on_way n table x op.sought old new op.state seek' More s at.0 (at.1 swept) goes), refl, s.answers.1);
  }
  swept_told seek' (Done (There b)) swept at s = cut_ends n table x op (record op { state = seek'; swept = follows op.state seek' }) b old new s
  swept_told seek' (Done FoundFrozen) swept at s = cut_frozen n table x op (record op { state = seek'; swept = follows op.state seek' }) old new s

  -- the row is retired, and nothing is left to do
  pub swept_ends : (op' : CutOp) (seek' : SeekState) (answer : Progress SeekEnd) (spot : Spot) (row tag : ℕ) → op.state ≡ Retiring spot row tag → op.swept ≡ true → IsCutting n table x op (caller table old)
      → SeekStepped n table x op.sought op.state seek' old new answer → CutStepped n table x op op' old new (Done Clean)
  swept_ends op' seek' answer spot row tag is swept at s' =
      let s = subst (λ z. SeekStepped n table x op.sought z seek' old new answer) is s' in
      let c = subst (λ z. CutsSwept n table.start.layout op.sought z (caller table old)) is (at.1 swept) in record {
        is = s'.is;
        works = s'.works;
        kind = s'.kind;
        copying = s'.copying;
        turns = s'.turns;
        number = s'.number;
        free = s'.free;
        debts = s'.debts;
        own = s'.own;
        owed = s'.owed;
        answers = (
          s.keeps.1,
          λ d same owed. c.at d (subst (λ z. HasName (names_of z) d) s.keeps.0.1 owed) (ap (λ (z : Event × ℕ). z.1) (one_target (d.event, d.row) (c.event, c.row) (sym same.0 ∙ c.target_is))),
          record {
            row = c.past.next;
            sweeps = sweep_stays n (caller table old).made (caller table new).made s.works.step s.works.made at.0.counted table.start.layout (at_head op.sought.list.head) (at_row c.past.next) c.past.sweeps;
            ends = ⊎_elim inl (λ t. inr (t.0, subst (λ ss. StandsOn ss c.past.next t.0) (sym s.keeps.0.0) t.1, subst (λ z. IsAfter z t.0 c.past.next) (sym c.target_is) (λ fits low. t.2))) c.past.ends;
          },
        );
      }
