-- Models of one object.
use Rattle.std.proofs.Common.{◌≡◌, ℕ, ◌<◌, ◌≤◌, ◌^◌, List, [], ◌∷◌, true, length, refl, arith, codes}
use Rattle.std.specs.List.{AllByRecursion}
use Rattle.std.proofs.lemmas.List.Elements.{All-from_recursion}
use Rattle.crq_sim.specs.declared.model.Behaviour.{Behaviour}
use Rattle.crq_sim.specs.declared.model.Behaviour.TheVariants.{Relay, Phold, Station, Fan, Sink}
use Rattle.crq_sim.specs.declared.model.TheConstants.{MOST_STARTS}
use Rattle.crq_sim.specs.declared.model.Object.{Object}
use Rattle.crq_sim.specs.declared.model.Start.{Start}
use Rattle.crq_sim.specs.Models.{IsModel, IsObject, IsBehaviour}
use Rattle.crq_sim.specs.Names.{is_name}
use Rattle.crq_sim.specs.Reactions.{IsWordOf}
use Rattle.crq_sim.proofs.Members.{none_in}

abbrev pub object_of : List ℕ → Behaviour → Object
object_of name behaviour = record { name = name; behaviour = behaviour }

pub one_known : (lookahead until : ℕ) (b : Behaviour) (starts : List Start) → 0 < lookahead → until < 2 ^ 32 → length starts ≤ MOST_STARTS → IsBehaviour lookahead 1 b
    → AllByRecursion (λ (s : Start). IsObject 1 s.object) starts
    → IsModel (record { lookahead = lookahead; until = until; objects = object_of (codes "p") b ∷ []; starts = starts })
one_known lookahead until b starts ahead within few is started =
    let objects : List Object = object_of (codes "p") b ∷ [] in
    record {
      ahead = ahead;
      within = within;
      few_objects = omega arith;
      few_starts = few;
      named = All-from_recursion (λ (o : Object). is_name o.name ≡ true) objects (refl, tt);
      apart = (none_in (codes "p"), tt);
      behaviours = All-from_recursion (λ (o : Object). IsBehaviour lookahead 1 o.behaviour) objects (is, tt);
      started = All-from_recursion (λ (s : Start). IsObject 1 s.object) starts started;
    }

pub word_known : (b : Behaviour) (word : ℕ) → word ≤ 2 ^ 32 → IsWordOf b word
word_known (Relay delay next) word le = tt
word_known (Phold seed spread) word le = tt
word_known (Station service next) word le = le
word_known (Fan delay targets) word le = tt
word_known Sink word le = tt
