-- The proofs of what is claimed of the conversion. Assumes nothing.
use Prim.Native.Nat.{ℕ, suc, ◌<◌}
use mathlib.Core.Path.{◌≡◌, refl, sym, ap, ◌∙◌}
use mathlib.Core.Bool.{true}
use mathlib.Core.List.{List, [], ◌∷◌, map}
use native.Mathlib.Omega.{arith}
use lib.ListN.{get_or, length, length-map}
use borrow.Author.Tests.{eq-eqb, ne_eqb}
use Rattle.words.proofs.Bools.{Is}
use Rattle.endian.proofs.Little.{length-numbers}
use Rattle.ports.specs.Bytes.{bytes, model_in}
use Rattle.shape.specs.declared.Shape.{Shape}
use Rattle.shape.specs.Shape.{in_range, entries, ranges_end}
use Rattle.model.specs.Tables.{lent_refusal}
use Rattle.model.specs.Audit.{audit}
use Rattle.model.proofs.Lent.{facts_lent}
use Rattle.lengths.specs.Lengths.{tables_fit}
use Rattle.lengths.proofs.Lengths.{tables_fitting}
use Rattle.letters.specs.declared.Way.{Way}
use Rattle.letters.specs.declared.Way.TheVariants.{ToNew}
use Rattle.std.specs.Prelude.{Ok}
use Rattle.letters.specs.Letters.{Converted, converted, byte_from}
use Rattle.edition.specs.Convert.{Tables, fit, conversion_refusal, moved, conversion, convert}
use Rattle.edition.specs.Rules.{keeps_rules}
use Rattle.edition.specs.Claims.{ThereAndBack, old_in, AuditAgrees, KeptConverts, RefusedConvertsNothing}
use Rattle.letters.specs.Claims.{Becomes, other_way}
use Rattle.letters.proofs.Letters.{returns_byte, old_not_through}
use Rattle.edition.proofs.Loops.{get-map}
use Rattle.edition.proofs.Conversions.{all_become, none_refused, tables-moved, accepted}
use Rattle.edition.proofs.Rules.{audit_new, kept_small}

-- Each byte of a table converted.
abbrev mapped : Way → List ℕ → List ℕ
mapped way l = map (λ b. byte_from (converted way b)) l

-- Every byte of a table becomes one.
abbrev AllBecome : Way → List ℕ → Type 0
AllBecome way l = (k : ℕ) → k < length l → Becomes (converted way (get_or l k 0))

-- The bytes that come back.
map_back : (way : Way) (l : List ℕ) → AllBecome way l → mapped (other_way way) (mapped way l) ≡ l
map_back way [] h = refl
map_back way (b ∷ l) h = rw (returns_byte way b (h 0 (omega arith)), map_back way l (λ k p. h (suc k) (omega arith))) refl

becomes_to : {c : Converted} (b : ℕ) → c ≡ Ok b → Becomes c
becomes_to b e = rw e (refl, refl)

all_back : (way : Way) (l : List ℕ) → AllBecome way l → AllBecome (other_way way) (mapped way l)
all_back way l h k p =
    let q : k < length l = rw (length-map l (λ b. byte_from (converted way b))) at p in
    becomes_to (get_or l k 0) (ap (converted (other_way way)) (get-map (λ b. byte_from (converted way b)) l k q) ∙ returns_byte way (get_or l k 0) (h k q))

fit-moved : (way : Way) (s : Shape) (t : Tables) → fit s (moved way t) ≡ fit s t
unfolding moved
fit-moved way s t = ap (λ (n : ℕ). tables_fit s (length t.tags) n (length t.words)) (length-map t.states (λ b. byte_from (converted way b)))

returned : (way : Way) (s : Shape) (t again : Tables) → Is (in_range s) → Is (fit s t) → Is (fit s again) → AllBecome way t.states
    → conversion 0 t ≡ convert (other_way way) s (moved way t) again
unfolding moved
returned way s t again r f g h =
    tables-moved (other_way way) s (moved way t) again {b = true} (sym r) refl {given = true} {lent = true} (sym (fit-moved way s t ∙ f)) (sym g) refl
    (sym (none_refused (other_way way) _ (all_back way t.states h))) refl refl (sym (map_back way t.states h)) refl

pub there_and_back : ThereAndBack
there_and_back way s t out again z g =
    let a = accepted way s t out z in
    ap (λ (u : Tables). convert (other_way way) s u again) a.moves
    ∙ sym (returned way s t again a.range a.fits g (all_become way t.states a.none))

-- The audit of what the tables become.
moved_agrees : (s : Shape) (memory : List ℕ) (t : Tables) → Is (in_range s) → Is (ranges_end s) → length t.states ≡ entries s → AllBecome ToNew t.states
    → audit s (model_in s (bytes memory t.tags (mapped ToNew t.states) t.words)) ≡ keeps_rules s (old_in s memory t)
unfolding audit model_in old_in
moved_agrees s memory t r ends e h =
    rw (eq-eqb (lent_refusal s (model_in s (bytes memory t.tags (mapped ToNew t.states) t.words))) 0 lent)
    (audit_new s (old_in s memory t) (λ k p. (h k (rw (← e) at p)).0))
  where
    lent : lent_refusal s (model_in s (bytes memory t.tags (mapped ToNew t.states) t.words)) ≡ 0
    lent = facts_lent s _ (record {
      range = r;
      ends = ends;
      sizes = record {
        memory = length-numbers 8 s.lines memory;
        tags = length-numbers 4 (entries s) t.tags;
        states = length-map t.states (λ b. byte_from (converted ToNew b)) ∙ e;
        words = length-numbers 8 (entries s) t.words;
      };
    })

pub audit_agrees : AuditAgrees
unfolding moved
audit_agrees s memory t out ends z =
    let a = accepted ToNew s t out z in
    let e = (tables_fitting s _ _ _ a.fits).1 in
    ap (λ (u : Tables). audit s (model_in s (bytes memory u.tags u.states u.words))) a.moves
    ∙ moved_agrees s memory t a.range ends e (all_become ToNew t.states a.none)

pub kept_converts : KeptConverts
unfolding convert conversion_refusal old_in
kept_converts s memory t out r f g h =
    let e = (tables_fitting s _ _ _ f).1 in
    let all : AllBecome ToNew t.states = λ k p. (kept_small s (old_in s memory t) h k (rw e at p), old_not_through _) in
    rw (r, f, g, none_refused ToNew t.states all) refl

pub refused_converts_nothing : RefusedConvertsNothing
unfolding convert
refused_converts_nothing way s t out h = rw (ne_eqb (conversion_refusal way s t out) 0 h)
