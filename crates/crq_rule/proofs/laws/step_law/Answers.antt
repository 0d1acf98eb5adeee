use Rattle.std.proofs.Common.{sym, ap, ◌∙◌, subst}
use Rattle.crq_rule.specs.Places.{word_of}
use Rattle.crq_rule.specs.Core.{Core, caller_of}
use Rattle.crq_rule.specs.Invariant.{Inv}
use Rattle.crq_rule.proofs.Frames.{frame_made}
use Rattle.crq_rule.proofs.Keeps.{keeps, others_stay, words_stay, rest_stays, history_grows}
use Rattle.crq_rule.proofs.laws.step_law.Goals as goal

pub returns : goal.returns
returns c = record {
  keeps = λ k c c' j b step inv. subst Inv (sym step.after) (keeps k c j b step.may inv);
  words = λ k c c' j step p ne. ap (λ (c : Core). word_of c.words p) step.after ∙ words_stay k c j p ne;
  others = λ k c c' j step i ne. ap (λ (c : Core). caller_of c i) step.after ∙ others_stay k c j i ne;
  history = λ k c c' j step. let r = rest_stays k c j in (ap (λ (c : Core). c.start) step.after ∙ r.0, ap (λ (c : Core). c.deal) step.after ∙ r.1, ap (λ (c : Core). c.history) step.after ∙ history_grows k c j);
  made = frame_made;
}
