use Rattle.std.proofs.Common.{refl, inl, inr}
use Rattle.crq_top.proofs.performing.give_up.Goals as goal

pub returns-in-OutOfMemory-clause-says : goal.returns-in-OutOfMemory-clause-says
returns-in-OutOfMemory-clause-says g c = inl (refl, c.say.ensures)

pub returns-in_default : goal.returns-in_default
returns-in_default g c = record {
  memory = λ is. absurd (c.in_default.not-OutOfMemory is);
  usage = λ _. refl;
  says = inr (refl, c.say-in_default.ensures);
}
