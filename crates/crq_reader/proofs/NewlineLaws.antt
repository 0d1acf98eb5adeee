-- A newline after a text that was printed changes nothing of what is read.
use Rattle.std.proofs.Common.{◌≡◌, ℕ, zero, suc, ◌<◌, slice_index, arith, Bool, true, false, cond, ◌&&◌, List, [], ◌∷◌, ◌++◌, Option, Some, None, option_and_then, refl, sym, ap, ap₂, ◌∙◌, subst, append_assoc, append-nil}
use Rattle.std.specs.Str.{IsUtf8}
use Rattle.std.proofs.lemmas.Str.{IsUtf8-from_ascii}
use Rattle.json.specs.Token.{Token, begin_object, end_object, begin_array, end_array, key, string, number, boolean, null, bad}
use Rattle.json.specs.Word.{ends_word, word}
use Rattle.json.specs.Lex.{Lexeme, token, comma, colon, string_token, lex, between, fresh, punctuate, tokens}
use Rattle.json.specs.Print.{escape, quoted, token_text, begins, ends, separator, print_from, print, IsPrintable, ArePrintable}
use Rattle.json.specs.Json as json
use Rattle.json.proofs.Printed.Strings.{content-escape, lex-escape}
use Rattle.json.proofs.Printed.Numbers.{lex-number, in_word-ended}
use Rattle.json.proofs.Printed.Trees.{ArePrintable-json_tokens}
use Rattle.json.proofs.Numbered.{ArePrintableOrBad-tokens, value-HasNumbers}
use Rattle.json.proofs.Unique.Spelling.{value-json_tokens_back}
use Rattle.serde_json.specs.Data.{Data}
use Rattle.serde_json.specs.Read.{of_json, max_depth, read}

-- the lexer reads these lexemes of a token's text, whatever follows it
abbrev Lexes : Token → Type 0
Lexes t = (ls : List Lexeme) × ((r : List ℕ) → (ends t ≡ true → ends_word r ≡ true) → lex between (token_text t ++ r) ≡ ls ++ lex between r)

lex_quoted : (s r : List ℕ) → lex between (quoted s ++ r) ≡ token (string s) ∷ lex between r
unfolding lex
lex_quoted s r = ap (λ l. lex between (34 ∷ l)) (append_assoc (escape s) (34 ∷ []) r) ∙ ap₂ (λ o l. token (string_token o) ∷ l) (content-escape s r) (lex-escape s r)

lexes : (t : Token) → IsPrintable t → Lexes t
unfolding lex word
lexes begin_object h = (token begin_object ∷ [], λ r ended. refl)
lexes end_object h = (token end_object ∷ [], λ r ended. refl)
lexes begin_array h = (token begin_array ∷ [], λ r ended. refl)
lexes end_array h = (token end_array ∷ [], λ r ended. refl)
lexes (key s) h = (token (string s) ∷ colon ∷ [], λ r ended. ap (lex between) (append_assoc (quoted s) (58 ∷ []) r) ∙ lex_quoted s (58 ∷ r))
lexes (string s) h = (token (string s) ∷ [], λ r ended. lex_quoted s r)
lexes (number s) h = (token (number s) ∷ [], λ r ended. lex-number s r h (ended refl))
lexes (boolean true) h = (token (boolean true) ∷ [], λ r ended. ap₂ (λ b l. token (cond b (boolean true) bad) ∷ l) (ended refl) (in_word-ended r (ended refl)))
lexes (boolean false) h = (token (boolean false) ∷ [], λ r ended. ap₂ (λ b l. token (cond b (boolean false) bad) ∷ l) (ended refl) (in_word-ended r (ended refl)))
lexes null h = (token null ∷ [], λ r ended. ap₂ (λ b l. token (cond b null bad) ∷ l) (ended refl) (in_word-ended r (ended refl)))
lexes bad h = absurd h

-- after a value stands a comma, a closing bracket or what ends a word
value_ends : (ts : List Token) (r : List ℕ) → ends_word r ≡ true → ends_word (print_from true ts ++ r) ≡ true
unfolding print_from
value_ends [] r h = h
value_ends (begin_object ∷ ts) r h = refl
value_ends (end_object ∷ ts) r h = refl
value_ends (begin_array ∷ ts) r h = refl
value_ends (end_array ∷ ts) r h = refl
value_ends (key s ∷ ts) r h = refl
value_ends (string s ∷ ts) r h = refl
value_ends (number s ∷ ts) r h = refl
value_ends (boolean b ∷ ts) r h = refl
value_ends (null ∷ ts) r h = refl
value_ends (bad ∷ ts) r h = refl

lex_comma : (b : Bool) (r : List ℕ) → lex between (cond b (44 ∷ []) [] ++ r) ≡ cond b (comma ∷ []) [] ++ lex between r
unfolding lex
lex_comma true r = refl
lex_comma false r = refl

lex_first : (c : Bool) (t : Token) (ts : List Token) (r : List ℕ) (made : Lexes t) → ends_word r ≡ true
    → lex between (print_from c (t ∷ ts) ++ r) ≡ cond (c && begins t) (comma ∷ []) [] ++ (made.0 ++ lex between (print_from (ends t) ts ++ r))
unfolding print_from
lex_first c t ts r made ended =
    ap (lex between) (append_assoc (separator c t) (token_text t ++ print_from (ends t) ts) r ∙ ap (λ l. separator c t ++ l) (append_assoc (token_text t) (print_from (ends t) ts) r))
    ∙ lex_comma (c && begins t) _
    ∙ ap (λ l. cond (c && begins t) (comma ∷ []) [] ++ l) (made.1 (print_from (ends t) ts ++ r) (λ e. ap (λ b. ends_word (print_from b ts ++ r)) e ∙ value_ends ts r ended))

lex_newline : (c : Bool) (ts : List Token) → ArePrintable ts → lex between (print_from c ts ++ 10 ∷ []) ≡ lex between (print_from c ts ++ [])
unfolding lex print_from ArePrintable
lex_newline c [] h = refl
lex_newline c (t ∷ ts) h =
    let made = lexes t h.0 in
    lex_first c t ts (10 ∷ []) made refl
    ∙ ap (λ l. cond (c && begins t) (comma ∷ []) [] ++ (made.0 ++ l)) (lex_newline (ends t) ts h.1)
    ∙ sym (lex_first c t ts [] made refl)

tokens_newline : (s : List ℕ) → ArePrintable (tokens s) → s ≡ print (tokens s) → tokens (s ++ 10 ∷ []) ≡ tokens s
tokens_newline s h e =
    ap (λ l. tokens (l ++ 10 ∷ [])) e ∙ ap (punctuate fresh) (lex_newline false (tokens s) h) ∙ ap tokens (append-nil (print (tokens s))) ∙ sym (ap tokens e)

whole_value : (o : Option (json.Json × List Token)) (d : Data) → option_and_then of_json (option_and_then (λ p. json.if_last p.0 p.1) o) ≡ Some d → (j : json.Json) × (o ≡ Some (j, []))
whole_value None d e = absurd (cc)
whole_value (Some (j, [])) d e = (j, refl)
whole_value (Some (j, t ∷ ts)) d e = absurd (cc)

printable : (s : List ℕ) (d : Data) → read s ≡ Some d → ArePrintable (tokens s)
printable s d e =
    let v = whole_value (json.value max_depth (tokens s)) d e in
    subst ArePrintable (sym (value-json_tokens_back max_depth (tokens s) [] v.0 v.1 ∙ append-nil _)) (ArePrintable-json_tokens v.0 (value-HasNumbers max_depth (tokens s) [] v.0 (ArePrintableOrBad-tokens s) v.1))

pub read-newline : (s : List ℕ) (d : Data) → read s ≡ Some d → s ≡ print (tokens s) → read (s ++ 10 ∷ []) ≡ Some d
read-newline s d e printed =
    ap (λ ts. option_and_then of_json (option_and_then (λ p. json.if_last p.0 p.1) (json.value max_depth ts))) (tokens_newline s (printable s d e) printed) ∙ e

newline_is_ascii : (i : ℕ) → slice_index (10 ∷ []) i < 128
newline_is_ascii zero = omega arith
newline_is_ascii (suc i) = omega arith

pub newline_is_text : IsUtf8 (10 ∷ [])
newline_is_text = IsUtf8-from_ascii (10 ∷ []) newline_is_ascii
