-- What is proved of the conversion beside its definition. The proofs are in proofs/Claims.antt.
use Rattle.std.specs.Prelude.{ℕ, ◌≡◌, ◌≢◌, true, List}
use Rattle.endian.specs.Little.{numbers}
use Rattle.ports.specs.Bytes.{bytes, model_in}
use Rattle.shape.specs.declared.Shape.{Shape}
use Rattle.shape.specs.Shape.{in_range, entries, ranges_end}
use Rattle.model.specs.Audit.{audit}
use Rattle.letters.specs.declared.Way.{Way}
use Rattle.letters.specs.declared.Way.TheVariants.{ToNew}
use Rattle.letters.specs.Claims.{other_way}
use Rattle.edition.specs.Convert.{Tables, fit, conversion, convert}
use Rattle.edition.specs.Rules.{OldSet, keeps_rules}

-- Old to new to old, and new to old to new: where the first way is not refused, the way back is not either, and leaves the bytes, tags and
-- data that there were, whatever fitting tables it is given to write to.
abbrev pub ThereAndBack : Type 0
ThereAndBack =
    (way : Way) (s : Shape) (t out again : Tables) → (convert way s t out).refusal ≡ 0 → fit s again ≡ true
    → convert (other_way way) s (convert way s t out).out again ≡ conversion 0 t

-- The numbers that an old set's bytes hold, with the bytes of a main memory beside it.
unfoldable pub old_in : Shape → List ℕ → Tables → OldSet
old_in s memory t =
    record { memory = numbers 8 s.lines memory; tags = numbers 4 (entries s) t.tags; states = t.states; words = numbers 8 (entries s) t.words }

-- A converted set passes the new audit exactly when the old one keeps the audit's rules read on the five letters, whatever main memory has, and
-- under any ranges that end within lines.
abbrev pub AuditAgrees : Type 0
AuditAgrees =
    (s : Shape) (memory : List ℕ) (t out : Tables) → ranges_end s ≡ true → (convert ToNew s t out).refusal ≡ 0
    → let c = (convert ToNew s t out).out in
    audit s (model_in s (bytes memory c.tags c.states c.words)) ≡ keeps_rules s (old_in s memory t)

-- A set of fitting tables that keeps the rules is not refused.
abbrev pub KeptConverts : Type 0
KeptConverts =
    (s : Shape) (memory : List ℕ) (t out : Tables) → in_range s ≡ true → fit s t ≡ true → fit s out ≡ true
    → keeps_rules s (old_in s memory t) ≡ true → (convert ToNew s t out).refusal ≡ 0

-- A refused conversion leaves the output tables as they were. (The tables that it reads it cannot write to.)
abbrev pub RefusedConvertsNothing : Type 0
RefusedConvertsNothing = (way : Way) (s : Shape) (t out : Tables) → (convert way s t out).refusal ≢ 0 → (convert way s t out).out ≡ out
