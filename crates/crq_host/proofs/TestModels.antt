-- The models of the tests.
use Rattle.std.proofs.Common.{◌≡◌, ℕ, List, [], true, get_or, refl, arith, ap, codes, inl, inr}
use Rattle.std.proofs.lemmas.List.Elements.{All-from_recursion}
use Rattle.crq_sim.specs.declared.model.Object.{Object}
use Rattle.crq_sim.specs.declared.model.Start.{Start}
use Rattle.crq_sim.specs.Examples.{relay_pair, three_starts}
use Rattle.crq_sim.specs.Models.{IsModel, IsObject, IsBehaviour}
use Rattle.crq_sim.specs.Names.{is_name}
use Rattle.crq_sim.proofs.Members.{none_in, from_cons}

pub pair_known : IsModel relay_pair
pair_known = record {
  ahead = omega arith;
  within = omega arith;
  few_objects = omega arith;
  few_starts = omega arith;
  named = All-from_recursion (λ (o : Object). is_name o.name ≡ true) relay_pair.objects (refl, (refl, tt));
  apart = (
    (λ at. elim (from_cons (codes "b") (codes "a") [] at) [ inl same ↦ (let letter = ap (λ (xs : List ℕ). get_or xs 0 0) same in omega arith) | inr none ↦ none_in (codes "a") none ]),
    (none_in (codes "b"), tt),
  );
  behaviours = All-from_recursion (λ (o : Object). IsBehaviour 5 2 o.behaviour) relay_pair.objects ((omega arith, (omega arith, omega arith)), ((omega arith, (omega arith, omega arith)), tt));
  started = All-from_recursion (λ (s : Start). IsObject 2 s.object) relay_pair.starts ((omega arith, omega arith), tt);
}

pub three_known : IsModel three_starts
three_known = record {
  ahead = omega arith;
  within = omega arith;
  few_objects = omega arith;
  few_starts = omega arith;
  named = All-from_recursion (λ (o : Object). is_name o.name ≡ true) three_starts.objects (refl, tt);
  apart = (none_in (codes "a"), tt);
  behaviours = All-from_recursion (λ (o : Object). IsBehaviour 5 1 o.behaviour) three_starts.objects (tt, tt);
  started = All-from_recursion (λ (s : Start). IsObject 1 s.object) three_starts.starts ((omega arith, omega arith), ((omega arith, omega arith), ((omega arith, omega arith), tt)));
}
