use Rattle.crq_rule.proofs.Stating.{words_hold, holders_hold, guards_hold, cover_holds, current_holds, bounds_hold}
use Rattle.crq_rule.proofs.StatingLists.{lists_hold, carriers_hold, history_holds, walkers_hold}
use Rattle.crq_rule.proofs.StatingScarcity.{scarcity_holds}
use Rattle.crq_rule.proofs.StatingHelpers.{helpers_hold}
use Rattle.crq_rule.proofs.StatingCopies.{copies_hold}
use Rattle.crq_rule.proofs.StatingEnd.{ending_holds}
use Rattle.crq_rule.proofs.laws.parts_law.Goals as goal

pub returns : goal.returns
returns c = record {
  words = words_hold;
  holders = holders_hold;
  guards = guards_hold;
  cover = cover_holds;
  lists = lists_hold;
  carriers = carriers_hold;
  history = history_holds;
  current = current_holds;
  walkers = walkers_hold;
  scarcity = scarcity_holds;
  bounds = bounds_hold;
  helpers = helpers_hold;
  copies = copies_hold;
  ending = ending_holds;
}
