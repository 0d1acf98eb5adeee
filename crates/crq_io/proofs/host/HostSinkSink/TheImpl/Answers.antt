-- What each sink ensures, where nothing is told.
use Rattle.crq_io.proofs.Untold.{part_untold, err_untold, err_rose}
use Rattle.crq_io.proofs.host.HostSinkSink.TheImpl.Goals as goal

pub write-tells : goal.write-tells
write-tells g c = record {
  ok = part_untold c.result _ c.ensures.ok;
  failed = err_rose c.result _ _ c.ensures.failed;
  nothing = err_untold c.result;
  later = c.ensures.later;
}
