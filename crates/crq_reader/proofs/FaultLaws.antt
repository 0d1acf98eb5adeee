-- Faults that are told.
use Rattle.std.proofs.Common.{◌≡◌, Result, Err, inl, inr, sym, ap, ◌∙◌}
use Rattle.crq_reader.specs.Language as language
use Rattle.crq_reader.specs.Language.{as_whole, no_memory}
use Rattle.crq_reader.specs.Drafts.{flaw_seen, IsFlaw, IsToldAs, IsFault}
use Rattle.crq_reader.specs.declared.fault.FaultNumber.TheVariants.{Memory}
use Rattle.crq_reader.specs.declared.fault.ModelFault.{ModelFault}
use Rattle.crq_reader.specs.declared.flaw.Flaw.{Flaw}

pub fault_told : {A : Type 0} (e f : ModelFault) (r : Result A ModelFault) → IsToldAs e f → r ≡ Err f → IsFault e r
fault_told e f r (inl short) is = inl short
fault_told e f r (inr same) is = inr (is ∙ ap Err (sym same))

pub flaw_told : {A B : Type 0} (e : ModelFault) (p : language.Flaw → ModelFault) (f : Flaw) (r : Result A language.Flaw) (all : Result B ModelFault)
    → IsToldAs e (p (flaw_seen f)) → (flaw_seen f ≡ as_whole Memory → e ≡ no_memory) → IsFlaw f r → (r ≡ Err (flaw_seen f) → all ≡ Err (p (flaw_seen f))) → IsFault e all
flaw_told e p f r all told memory (inl short) is = inl (memory short)
flaw_told e p f r all told memory (inr first) is = fault_told e (p (flaw_seen f)) all told (is first)
