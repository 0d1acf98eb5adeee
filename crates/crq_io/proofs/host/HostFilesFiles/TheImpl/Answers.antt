-- What all files ensure, where nothing is told: most of it is about told bytes alone.
use Rattle.std.proofs.Common.{arith, refl}
use Rattle.std.proofs.lemmas.Option.{none-some}
use Rattle.crq_io.proofs.Untold.{ok_untold}
use Rattle.crq_io.proofs.host.HostFilesFiles.TheImpl.Goals as goal

pub fetch-tells : goal.fetch-tells
fetch-tells g c = record {
  ok = ok_untold c.result _ c.ensures.ok;
  kept = λ _. refl;
  later = c.ensures.later;
  failed = λ h. omega (arith, c.ensures.failed h);
  long = λ _ bytes told. absurd (none-some _ told);
  too_long = λ bytes told. absurd (none-some _ told);
  none_is_long = λ _ told. none-some _ told;
  no_file = λ h. absurd (c.ensures.absent h);
  absent = λ told. absurd (none-some _ told);
  fits = λ bytes told. absurd (none-some _ told);
}
