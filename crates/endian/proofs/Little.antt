-- Laws of little-endian numbers: one number in bytes, and a list of them. Assumes nothing.
use Prim.Native.Nat.{ℕ, zero, suc, ◌+◌, ◌*◌, ◌/◌, ◌%◌, ◌^◌, ◌-◌, ◌<◌, ◌≤◌}
use mathlib.Core.Path.{◌≡◌, refl, ap, sym, ◌∙◌}
use mathlib.Core.List.{List, [], ◌∷◌, ◌++◌}
use native.Mathlib.Omega.{arith}
use native.Mathlib.Nat.{add-zero, zero-add, suc-add, add_comm, mul-zero, mul-suc}
use lib.ListN.{get_or, set, length, take, drop, replicate, take-append-drop, length-append, length-drop}
use lib.Pow.{pow-add}
use lib.Seq.{get_or-drop, drop-drop, sets, length-sets}
use borrow.Rule.Slice.PartMut.{put_mid}
use Rattle.std.specs.Int.{w64, byte_at, bytes_low_first, to_le_bytes, from_le_bytes}
use Rattle.std.proofs.Math.Nat.{div-div-eq-div-mul, div-one, pow-suc}
use Rattle.std.proofs.lemmas.List.{take_all, length-take-le, length-replicate, drop-replicate}
use Rattle.std.proofs.lemmas.List.Edits.{sets-eq, paste_all}
use Rattle.std.proofs.lemmas.Slice.{put_mid-paste}
use Rattle.endian.specs.Little.{number, bytes_of, numbers, encoded}

-- One byte more, below the others.
one_more : (w : ℕ) (s : List ℕ) (at next : ℕ) → at + 1 ≡ next → number (suc w) (drop at s) ≡ get_or s at 0 + 256 * number w (drop next s)
unfolding number
one_more w s at next e = rw (← e, get_or-drop, drop-drop, add-zero)

-- A number of w bytes is below 256 ^ w.
pub number_fits : (w : ℕ) (bs : List ℕ) → ((k : ℕ) → get_or bs k 0 < 256) → number w bs < 256 ^ w
unfolding number
number_fits zero bs h = omega arith
number_fits (suc w) bs h =
    let b : get_or bs 0 0 < 256 = h 0 in
    let r : number w (drop 1 bs) < 256 ^ w = number_fits w (drop 1 bs) (λ k. rw (get_or-drop 1 bs k 0) (h (1 + k))) in
    omega (arith, pow-add 256 1 w)

-- Eight bytes, as the library reads them.
eight_read : (bs : List ℕ) → length bs ≡ 8 → from_le_bytes w64 bs ≡ number 8 bs
unfolding number
eight_read [] h = absurd (omega (arith, h))
eight_read (a ∷ []) h = absurd (omega (arith, h))
eight_read (a ∷ b ∷ []) h = absurd (omega (arith, h))
eight_read (a ∷ b ∷ c ∷ []) h = absurd (omega (arith, h))
eight_read (a ∷ b ∷ c ∷ d ∷ []) h = absurd (omega (arith, h))
eight_read (a ∷ b ∷ c ∷ d ∷ e ∷ []) h = absurd (omega (arith, h))
eight_read (a ∷ b ∷ c ∷ d ∷ e ∷ f ∷ []) h = absurd (omega (arith, h))
eight_read (a ∷ b ∷ c ∷ d ∷ e ∷ f ∷ g ∷ []) h = absurd (omega (arith, h))
eight_read (a ∷ b ∷ c ∷ d ∷ e ∷ f ∷ g ∷ i ∷ []) h = omega arith
eight_read (a ∷ b ∷ c ∷ d ∷ e ∷ f ∷ g ∷ i ∷ j ∷ bs) h = absurd (omega (arith, h))

-- Zeros above a number leave it.
number_zeros : (k : ℕ) → number k (replicate k 0) ≡ 0
unfolding number
number_zeros zero = refl
number_zeros (suc k) = omega (arith, number_zeros k)

number_padded : (w k : ℕ) (bs : List ℕ) → w ≤ length bs → number (w + k) (take w bs ++ replicate k 0) ≡ number w bs
unfolding number
number_padded zero k bs h = rw (zero-add k) (number_zeros k)
number_padded (suc w) k [] h = absurd (omega arith)
number_padded (suc w) k (b ∷ bs) h = rw (suc-add w k, number_padded w k bs (omega arith))

-- The w bytes from a place on, read in front of zeros.
pub number_read : (w at : ℕ) (s : List ℕ) {x : ℕ} {bs : List ℕ} → w ≤ 8 → at + w ≤ length s → ((k : ℕ) → get_or s k 0 < 256)
    → bs ≡ take (at + w - at) (drop at s) → x ≡ from_le_bytes w64 (put_mid 0 (w - 0) (replicate 8 0) bs) → (x ≡ number w (drop at s)) × (x < 256 ^ w)
number_read w at s {x} {bs} h r b e z =
    let room : w ≤ length (drop at s) = rw (length-drop at s) (omega arith) in
    let k : at + w - at ≡ w = omega arith in
    let o : w ≡ w - 0 = omega arith in
    let fit : w + (8 - w) ≡ 8 = omega arith in
    let e' : bs ≡ take w (drop at s) = e ∙ ap (λ (n : ℕ). take n (drop at s)) k in
    let l : w ≡ length (take w (drop at s)) = sym (length-take-le w (drop at s) room) in
    let p : put_mid 0 (w - 0) (replicate 8 0) bs ≡ take w (drop at s) ++ replicate (8 - w) 0 =
    put_mid-paste 0 (w - 0) (replicate 8 0) bs (take w (drop at s)) w e' o l
    ∙ paste_all (replicate 8 0) 0 (take w (drop at s)) w l ∙ rw (zero-add w, drop-replicate {X = ℕ} w 8 0) in
    let eight : length (take w (drop at s) ++ replicate (8 - w) 0) ≡ 8 = rw (length-append (take w (drop at s)) (replicate (8 - w) 0), ← l, length-replicate {A = ℕ} (8 - w) 0) fit in
    let n : x ≡ number w (drop at s) =
    z ∙ ap (from_le_bytes w64) p ∙ eight_read (take w (drop at s) ++ replicate (8 - w) 0) eight
    ∙ ap (λ (m : ℕ). number m (take w (drop at s) ++ replicate (8 - w) 0)) (sym fit) ∙ number_padded w (8 - w) (drop at s) room in
    let bytes : (k : ℕ) → get_or (drop at s) k 0 < 256 = λ k. rw (get_or-drop at s k 0) (b (at + k)) in
    (n, rw n (number_fits w (drop at s) bytes))

-- The lowest w bytes of a number, of more that the library's method gives, and these stored.
lowest : (w i k x : ℕ) → w ≤ k → take w (bytes_low_first i k x) ≡ bytes_of w (x / 256 ^ i)
unfolding bytes_of
lowest zero i k x h = refl
lowest (suc w) i zero x h = absurd (omega arith)
lowest (suc w) i (suc k) x h =
    let e : x / 256 ^ suc i ≡ x / 256 ^ i / 256 = sym (div-div-eq-div-mul x (256 ^ i) 256 ∙ ap (λ (n : ℕ). x / n) (sym (pow-suc 256 i))) in
    rw (byte_is i x, lowest w (suc i) k x (omega arith), e)
  where
    byte_is : (i x : ℕ) → byte_at i x ≡ x / 256 ^ i % 256
    byte_is zero x = omega arith
    byte_is (suc i) x = refl

length-bytes : (w x : ℕ) → length (bytes_of w x) ≡ w
unfolding bytes_of
length-bytes zero x = refl
length-bytes (suc w) x = ap suc (length-bytes w (x / 256))

pub bytes_stored : (w at x : ℕ) (s ys : List ℕ) → w ≤ 8 → at + w ≤ length s → ys ≡ take w (to_le_bytes w64 x)
    → put_mid at (at + w - at) s ys ≡ sets s at (bytes_of w x)
bytes_stored w at x s ys h r e =
    let b : ys ≡ bytes_of w x = e ∙ lowest w 0 8 x h ∙ ap (bytes_of w) (div-one x) in
    let l : length (bytes_of w x) ≡ w = length-bytes w x in
    let k : at + w - at ≡ w = omega arith in
    put_mid-paste at (at + w - at) s ys (bytes_of w x) w b (sym k) (sym l)
    ∙ sym (sets-eq (bytes_of w x) s at (omega (arith, l)) ∙ rw (l, take_all w (bytes_of w x) (omega (arith, l))))

-- A run of stores past the first byte.
sets_nil : (i : ℕ) (vs : List ℕ) → sets [] i vs ≡ []
sets_nil i [] = refl
sets_nil i (v ∷ vs) = sets_nil (suc i) vs

sets_past : (b : ℕ) (bs : List ℕ) (i : ℕ) (vs : List ℕ) → sets (b ∷ bs) (suc i) vs ≡ b ∷ sets bs i vs
sets_past b bs i [] = refl
sets_past b bs i (v ∷ vs) = sets_past b (set bs i v) (suc i) vs

drop-sets : (w i : ℕ) (bs vs : List ℕ) → drop w (sets bs (w + i) vs) ≡ sets (drop w bs) i vs
drop-sets zero i bs vs = rw (zero-add i)
drop-sets (suc w) i [] vs = rw (sets_nil (suc w + i) vs, sets_nil i vs)
drop-sets (suc w) i (b ∷ bs) vs = rw (suc-add w i, sets_past b bs (w + i) vs) (drop-sets w i bs vs)

-- Bytes stored behind a number leave it.
number_before : (w i : ℕ) (bs vs : List ℕ) → number w (sets bs (w + i) vs) ≡ number w bs
unfolding number
number_before zero i bs vs = refl
number_before (suc w) i [] vs = rw (sets_nil (suc w + i) vs)
number_before (suc w) i (b ∷ bs) vs = rw (suc-add w i, sets_past b bs (w + i) vs, number_before w i bs vs)

-- A number stored is read back, and what is behind it stays.
number-stored : (w x : ℕ) (bs : List ℕ) → x < 256 ^ w → w ≤ length bs → number w (sets bs 0 (bytes_of w x)) ≡ x
unfolding number bytes_of
number-stored zero x bs h r = omega arith
number-stored (suc w) x [] h r = absurd (omega arith)
number-stored (suc w) x (b ∷ bs) h r =
    let e = number-stored w (x / 256) bs (omega (arith, pow-add 256 1 w)) (omega arith) in
    rw (sets_past (x % 256) bs 0 (bytes_of w (x / 256)), e) (omega arith)

behind_stored : (w x : ℕ) (bs : List ℕ) → w ≤ length bs → drop w (sets bs 0 (bytes_of w x)) ≡ drop w bs
unfolding bytes_of
behind_stored zero x bs r = refl
behind_stored (suc w) x [] r = absurd (omega arith)
behind_stored (suc w) x (b ∷ bs) r = rw (sets_past (x % 256) bs 0 (bytes_of w (x / 256))) (behind_stored w (x / 256) bs (omega arith))

-- Number k of a list of numbers.
pub get-numbers : (w n k : ℕ) (bs : List ℕ) → k < n → get_or (numbers w n bs) k 0 ≡ number w (drop (w * k) bs)
unfolding numbers
get-numbers w zero k bs h = absurd (omega arith)
get-numbers w (suc n) zero bs h = rw (mul-zero w)
get-numbers w (suc n) (suc k) bs h =
    get-numbers w n k (drop w bs) (omega arith) ∙ ap (number w)
    (drop-drop (w * k) w bs ∙ ap (λ (j : ℕ). drop j bs) (sym (mul-suc w k ∙ add_comm (w * k) w)))

pub length-numbers : (w n : ℕ) (bs : List ℕ) → length (numbers w n bs) ≡ n
unfolding numbers
length-numbers w zero bs = refl
length-numbers w (suc n) bs = ap suc (length-numbers w n (drop w bs))

-- Number k stored.
pub set-numbers : (w n k x : ℕ) (bs : List ℕ) → k < n → x < 256 ^ w → w * n ≤ length bs
    → numbers w n (sets bs (w * k) (bytes_of w x)) ≡ set (numbers w n bs) k x
unfolding numbers
set-numbers w zero k x bs h v r = absurd (omega arith)
set-numbers w (suc n) zero x bs h v r =
    let b : w ≤ length bs = omega (arith, mul-suc w n) in
    rw (mul-zero w, number-stored w x bs v b, behind_stored w x bs b)
set-numbers w (suc n) (suc k) x bs h v r =
    let b : w * n ≤ length (drop w bs) = rw (length-drop w bs) (omega (arith, mul-suc w n)) in
    rw (
      mul-suc w k,
      add_comm (w * k) w,
      number_before w (w * k) bs (bytes_of w x),
      drop-sets w (w * k) bs (bytes_of w x),
      set-numbers w n k x
          (drop w bs) (omega arith) v b,
    )

-- The same of bytes that hold n numbers and no more, which they then still do.
pub number_put : (w n k x : ℕ) (bs : List ℕ) → length bs ≡ w * n → k < n → x < 256 ^ w → {m : List ℕ} → m ≡ sets bs (w * k) (bytes_of w x)
    → (length m ≡ w * n) × (numbers w n m ≡ set (numbers w n bs) k x)
number_put w n k x bs l h v e =
    (ap length e ∙ length-sets bs (w * k) (bytes_of w x) ∙ l, rw e (set-numbers w n k x bs h v (omega (arith, l))))

-- Bytes read as numbers and written as bytes again are the same.
same_number : (w : ℕ) (bs : List ℕ) → ((k : ℕ) → get_or bs k 0 < 256) → w ≤ length bs → bytes_of w (number w bs) ≡ take w bs
unfolding number bytes_of
same_number zero bs h r = refl
same_number (suc w) [] h r = absurd (omega arith)
same_number (suc w) (b ∷ bs) h r =
    let low : b < 256 = h 0 in
    let e : (b + 256 * number w bs) % 256 ≡ b = omega arith in
    let f : (b + 256 * number w bs) / 256 ≡ number w bs = omega arith in
    rw (e, f, same_number w bs (λ k. h (suc k)) (omega arith))

pub same_bytes : (w n : ℕ) (bs : List ℕ) → ((k : ℕ) → get_or bs k 0 < 256) → length bs ≡ w * n → encoded w (numbers w n bs) ≡ bs
unfolding encoded numbers
same_bytes w zero bs h r = sym (no_bytes bs (r ∙ mul-zero w))
  where
    no_bytes : (l : List ℕ) → length l ≡ 0 → l ≡ []
    no_bytes [] e = refl
    no_bytes (b ∷ l) e = absurd (omega arith)
same_bytes w (suc n) bs h r =
    let m : length bs ≡ w * n + w = r ∙ mul-suc w n in
    rw (same_number w bs h (omega arith), same_bytes w n (drop w bs) (λ k. rw (get_or-drop w bs k 0) (h (w + k))) (length-drop w bs ∙ omega arith))
    (take-append-drop w bs)

-- Numbers written as bytes and read again are the same.
read_back : (w x : ℕ) (bs : List ℕ) → x < 256 ^ w → number w (bytes_of w x ++ bs) ≡ x
unfolding number bytes_of
read_back zero x bs h = omega arith
read_back (suc w) x bs h = rw (read_back w (x / 256) bs (omega (arith, pow-add 256 1 w))) (omega arith)

behind_read : (w x : ℕ) (bs : List ℕ) → drop w (bytes_of w x ++ bs) ≡ bs
unfolding bytes_of
behind_read zero x bs = refl
behind_read (suc w) x bs = behind_read w (x / 256) bs

-- Number k of a list of numbers written as bytes.
no_number : (w i : ℕ) → number w (drop i []) ≡ 0
unfolding number
no_number zero i = refl
no_number (suc w) zero = let e = no_number w 0 in omega (arith, e)
no_number (suc w) (suc i) = let e = no_number w 0 in omega (arith, e)

pub number_at : (w : ℕ) (xs : List ℕ) (k : ℕ) → get_or xs k 0 < 256 ^ w → number w (drop (w * k) (encoded w xs)) ≡ get_or xs k 0
unfolding encoded
number_at w [] k h = no_number w (w * k)
number_at w (x ∷ xs) zero h = rw (mul-zero w) (read_back w x (encoded w xs) h)
number_at w (x ∷ xs) (suc k) h =
    rw (mul-suc w k, add_comm (w * k) w, ← drop-drop (w * k) w (bytes_of w x ++ encoded w xs), behind_read w x (encoded w xs)) (number_at w xs k h)

-- All of them.
pub numbers_back : (w : ℕ) (xs : List ℕ) → ((k : ℕ) → get_or xs k 0 < 256 ^ w) → numbers w (length xs) (encoded w xs) ≡ xs
unfolding numbers encoded
numbers_back w [] h = refl
numbers_back w (x ∷ xs) h =
    rw (read_back w x (encoded w xs) (h 0), behind_read w x (encoded w xs), numbers_back w xs (λ k. h (suc k)))

pub length-encoded : (w : ℕ) (xs : List ℕ) → length (encoded w xs) ≡ w * length xs
unfolding encoded
length-encoded w [] = sym (mul-zero w)
length-encoded w (x ∷ xs) =
    length-append (bytes_of w x) (encoded w xs)
    ∙ let a = length-bytes w x in let b = length-encoded w xs in let c = mul-suc w (length xs) in omega (arith, a, b, c)

-- Each number of a list of them is below 256 ^ w.
pub numbers_fit : (w n : ℕ) (bs : List ℕ) → ((k : ℕ) → get_or bs k 0 < 256) → (k : ℕ) → get_or (numbers w n bs) k 0 < 256 ^ w
unfolding numbers
numbers_fit w zero bs h k = omega (arith, number_fits w bs h)
numbers_fit w (suc n) bs h zero = number_fits w bs h
numbers_fit w (suc n) bs h (suc k) = numbers_fit w n (drop w bs) (λ j. rw (get_or-drop w bs j 0) (h (w + j))) k

-- What is written is bytes.
append-bytes : (l r : List ℕ) → ((k : ℕ) → get_or l k 0 < 256) → ((k : ℕ) → get_or r k 0 < 256) → (k : ℕ) → get_or (l ++ r) k 0 < 256
append-bytes [] r f g k = g k
append-bytes (x ∷ l) r f g zero = f zero
append-bytes (x ∷ l) r f g (suc k) = append-bytes l r (λ j. f (suc j)) g k

number-bytes : (w x : ℕ) → (k : ℕ) → get_or (bytes_of w x) k 0 < 256
unfolding bytes_of
number-bytes zero x k = omega arith
number-bytes (suc w) x zero = omega arith
number-bytes (suc w) x (suc k) = number-bytes w (x / 256) k

pub encoded-bytes : (w : ℕ) (l : List ℕ) → (k : ℕ) → get_or (encoded w l) k 0 < 256
unfolding encoded
encoded-bytes w [] k = omega arith
encoded-bytes w (x ∷ l) k = append-bytes (bytes_of w x) (encoded w l) (number-bytes w x) (encoded-bytes w l) k
