-- What a fault says in words, for a person.
use Rattle.std.specs.Prelude.{ℕ, ◌/◌, ◌%◌, Bool, false, not, ◌&&◌, ◌==◌, nat_lt, nat_le, if◌then◌else◌, List, [], ◌∷◌, ◌++◌, take, length, codes}
use Rattle.std.specs.Fmt.{decimal, digit_glyph}
use Rattle.std.specs.List.{flat_map}
use Rattle.crq_reader.specs.Language.{member_word}
use Rattle.crq_reader.specs.declared.member.Member.{Member}
use Rattle.crq_reader.specs.declared.member.Member.TheVariants as members
use Rattle.crq_reader.specs.declared.fault.FaultNumber.{FaultNumber}
use Rattle.crq_reader.specs.declared.fault.FaultNumber.TheVariants.{NotJson, Memory, Missing, WrongKind, Range, UnknownName, Lookahead, TooMany}
use Rattle.crq_reader.specs.declared.fault.Place.{Place}
use Rattle.crq_reader.specs.declared.fault.Place.TheVariants.{File, Object, Start}
use Rattle.crq_reader.specs.declared.fault.Subject.{Subject}
use Rattle.crq_reader.specs.declared.fault.Subject.TheVariants as about
use Rattle.crq_reader.specs.declared.fault.ModelFault.{ModelFault}

-- ---- words of the file

-- a byte that stands for itself: it prints in ASCII, and isn't `"` or `\`
abbrev pub is_plain : ℕ → Bool
is_plain b = nat_le 32 b && nat_lt b 127 && not (b == 34) && not (b == 92)

-- each other byte is `\x` and two hex digits
abbrev pub byte_shown : ℕ → List ℕ
byte_shown b = if is_plain b then b ∷ [] else 92 ∷ 120 ∷ digit_glyph false (b / 16) ∷ digit_glyph false (b % 16) ∷ []

-- in quotes; of more than 64 bytes the first 64, and three dots behind the quotes
abbrev pub word_shown : List ℕ → List ℕ
word_shown w = if nat_le (length w) 64 then 34 ∷ (flat_map byte_shown w ++ 34 ∷ []) else 34 ∷ (flat_map byte_shown (take 64 w) ++ codes "\"...")

abbrev pub member_shown : Member → List ℕ
member_shown m = 34 ∷ (member_word m ++ 34 ∷ [])

-- ---- what is wrong

-- what may be wrong under each number
abbrev pub fault_words : FaultNumber → List ℕ
fault_words NotJson = codes "the text isn't JSON in UTF-8"
fault_words Memory = codes "there is no memory to read the text"
fault_words Missing = codes "a member is missing"
fault_words WrongKind = codes "something is of the wrong kind"
fault_words Range = codes "a number or a name is out of range, a name is given twice, or there is no target"
fault_words UnknownName = codes "there is no such kind, or no object of that name"
fault_words Lookahead = codes "the lookahead is 0, or a delay or service is below it"
fault_words TooMany = codes "there are more than 65535 objects or starts, or more than 4 targets"

-- of the text, an object or a start as a whole
abbrev pub whole_words : FaultNumber → List ℕ
whole_words WrongKind = codes "it isn't a JSON object"
whole_words f = fault_words f

-- what a member has to be
abbrev pub form_words : Member → List ℕ
form_words members.Name = codes "a text"
form_words members.Kind = codes "a text"
form_words members.Next = codes "a text"
form_words members.Object = codes "a text"
form_words members.Objects = codes "an array"
form_words members.Starts = codes "an array"
form_words members.Targets = codes "an array of texts"
form_words m = codes "a whole number from 0 to 18446744073709551615 in digits alone"

abbrev pub range_words : Member → List ℕ
range_words members.Format = codes "isn't 1"
range_words members.Targets = codes "is empty"
range_words m = codes "is above 4294967295"

abbrev pub ahead_words : Member → List ℕ
ahead_words members.Lookahead = codes "is 0"
ahead_words m = codes "is below the lookahead"

abbrev pub many_words : Member → List ℕ
many_words members.Targets = codes "has more than 4 elements"
many_words m = codes "has more than 65535 elements"

abbrev pub member_words : FaultNumber → Member → List ℕ
member_words Missing m = member_shown m ++ codes " is missing"
member_words WrongKind m = member_shown m ++ (codes " isn't " ++ form_words m)
member_words Range m = member_shown m ++ (codes " " ++ range_words m)
member_words Lookahead m = member_shown m ++ (codes " " ++ ahead_words m)
member_words TooMany m = member_shown m ++ (codes " " ++ many_words m)
-- the language tells no other fault of a member
member_words f m = member_shown m ++ (codes ": " ++ fault_words f)

abbrev pub said_words : FaultNumber → Subject → List ℕ
said_words f about.Whole = whole_words f
said_words f (about.Member m) = member_words f m
said_words f (about.NoKind w) = codes "no kind " ++ word_shown w
said_words f (about.NoName w) = codes "the name " ++ (word_shown w ++ codes " isn't 1 to 32 letters and digits of ASCII, '_', '-' and '.'")
said_words f (about.NameTwice w) = codes "the name " ++ (word_shown w ++ codes " is given twice")
said_words f (about.NoObject m w) = member_shown m ++ (codes " names no object " ++ word_shown w)

-- ---- where it is

abbrev pub place_words : Place → List ℕ
place_words File = codes "the model"
place_words (Object k) = codes "object " ++ decimal k
place_words (Start i) = codes "start " ++ decimal i

-- where it is, but for the file, and then what it is
abbrev pub model_fault_words : ModelFault → List ℕ
model_fault_words f = at_words f.place (said_words f.number f.subject)
  where
    at_words : Place → List ℕ → List ℕ
    at_words File said = said
    at_words p said = place_words p ++ (codes ": " ++ said)
