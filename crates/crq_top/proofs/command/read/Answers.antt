use Rattle.std.proofs.Common.{◌≡◌, ◌∙◌, ℕ, List, [], ◌∷◌, map, string_bytes, length, subst, sym, ap, refl, inl, inr, Global}
use Rattle.std.specs.Prelude.{String}
use Rattle.crq_top.specs.declared.forms.Parameter.{Parameter}
use Rattle.crq_top.specs.declared.forms.Verb.{Verb}
use Rattle.crq_top.specs.Commands.{Asked, Spells, IsFirstProblem, IsProblemOf, IsInRange, Problem, no_command, unknown, form_of, name_of, operands_of, verb_of, problem_of, asked_of}
use Rattle.crq_top.proofs.Spelling.{spells_none}
use Rattle.crq_top.proofs.command.read.Goals as goal

no_words : (most : ℕ) (ws : List (String Global)) → length ws ≡ 0 → IsFirstProblem most (map string_bytes ws) no_command
no_words most [] h = refl
no_words most (w ∷ ws) h = absurd (cc)

module _ (most : ℕ) (ws : List (String Global)) (w : String Global) (rest : List (String Global)) (name : List ℕ) (split : ws ≡ w ∷ rest) (is : name ≡ string_bytes w) where
  no_name : (told : List ℕ) → told ≡ string_bytes w → ((v : Verb) → name ≡ name_of v → ⊥) → IsFirstProblem most (map string_bytes ws) (unknown told)
  no_name told same none = subst (λ vs. IsFirstProblem most (map string_bytes vs) (unknown told)) (sym split) (inl ((λ v h. none v (is ∙ h)), ap unknown same))

  wrong_words : (v : Verb) (ps : List Parameter) (x : Problem) → name ≡ name_of v → ps ≡ form_of v → IsProblemOf most ps (map string_bytes rest) x → IsFirstProblem most (map string_bytes ws) x
  wrong_words v ps x named form h = subst (λ vs. IsFirstProblem most (map string_bytes vs) x) (sym split) (inr (v, sym is ∙ named, subst (λ qs. IsProblemOf most qs (map string_bytes rest) x) form h))

  right_words : (v : Verb) (a : Asked) → name ≡ name_of v → verb_of a ≡ v → operands_of a ≡ map string_bytes rest → IsInRange most a → Spells most (map string_bytes ws) a
  right_words v a named verb operands range =
      let first : string_bytes w ≡ name_of (verb_of a) = sym is ∙ named ∙ ap name_of (sym verb) in
      record {
        spelled = subst (λ vs. map string_bytes vs ≡ name_of (verb_of a) ∷ operands_of a) (sym split) (λ i. first i ∷ sym operands i);
        in_range = range;
      }

pub returns-in-None : goal.returns-in-None
returns-in-None c = record {
  ok = right_words c.args.most c.args.words.now c.in-Some.name.now c.in-Some.operands.now c.as_str.result.now c.in-Some.ensures.cases.0 c.as_str.ensures.value
      c.in-Some-named.verb (asked_of c.command_of.result) c.in-Some-named.ensures c.command_of.ensures.verb c.command_of.ensures.operands c.command_of.ensures.in_range;
  err = tt;
  none = tt;
}

pub returns-in_default : goal.returns-in_default
returns-in_default c =
    let first : IsFirstProblem c.args.most (map string_bytes c.args.words.now) no_command = no_words c.args.most c.args.words.now c.in_default.ensures.cases in
    record {
      ok = tt;
      err = first;
      none = spells_none c.args.most (map string_bytes c.args.words.now) no_command first;
    }

pub returns-in_default-named : goal.returns-in_default-named
returns-in_default-named c =
    let x = unknown c.as_str-in_default-named.result.now in
    let first : IsFirstProblem c.args.most (map string_bytes c.args.words.now) x =
    no_name c.args.most c.args.words.now c.in-Some.name.now c.in-Some.operands.now c.as_str.result.now c.in-Some.ensures.cases.0 c.as_str.ensures.value
    c.as_str-in_default-named.result.now c.as_str-in_default-named.ensures.value c.in_default-named.ensures in
    record {
      ok = tt;
      err = first;
      none = spells_none c.args.most (map string_bytes c.args.words.now) x first;
    }

pub returns-in-Some-misfit_of : goal.returns-in-Some-misfit_of
returns-in-Some-misfit_of c =
    let x = problem_of c.in-Some-misfit_of.misfit in
    let first : IsFirstProblem c.args.most (map string_bytes c.args.words.now) x =
    wrong_words c.args.most c.args.words.now c.in-Some.name.now c.in-Some.operands.now c.as_str.result.now c.in-Some.ensures.cases.0 c.as_str.ensures.value
    c.in-Some-named.verb c.form.result.now x c.in-Some-named.ensures c.form.ensures c.in-Some-misfit_of.ensures in
    record {
      ok = tt;
      err = first;
      none = spells_none c.args.most (map string_bytes c.args.words.now) x first;
    }
