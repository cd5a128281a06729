-- What the first 64 bytes say.
use Rattle.std.proofs.Common.{◌≡◌, ◌≢◌, inl, inr, ℕ, ◌+◌, ◌*◌, ◌%◌, ◌<◌, ◌≤◌, List, length, get_or, take, drop, sym, ◌∙◌, ap, subst, arith}
use Rattle.std.proofs.lemmas.List.{length-take, get_or-take, take-take, drop-take}
use Rattle.coda_journal.specs.Header.{marks, area_bytes}
use Rattle.coda_journal.specs.Heading.{DiffersFirst}
use Rattle.coda_journal.specs.Image.{IsMade, IsUnmade, HasHeader, start_of, area_of, OtherHeader}
use Rattle.coda_journal.specs.declared.header.Header.{Header}
use Rattle.coda_journal.proofs.Images.{other_of}

module _ (header : Header) (image first : List ℕ) (is : first ≡ take 64 image) where
  get_first : (k : ℕ) → k < 64 → get_or first k 0 ≡ get_or image k 0
  get_first k lt = ap (λ (l : List ℕ). get_or l k 0) is ∙ get_or-take 64 image k 0 lt

  pub short : length first < 64 → IsUnmade image
  short lt = inl (omega (arith, lt, ap length is, length-take 64 image))

  pub shut : get_or first 0 0 ≢ 1 → IsUnmade image
  shut other = inr (λ e. other (get_first 0 (omega arith) ∙ e))

  pub made : 64 ≤ length first → get_or first 0 0 ≡ 1 → IsMade image
  made le gate = record { size = omega (arith, le, ap length is, length-take 64 image); gate = sym (get_first 0 (omega arith)) ∙ gate }

  middle : take 62 (drop 2 first) ≡ take 62 (drop 2 image)
  middle = ap (λ (l : List ℕ). take 62 (drop 2 l)) is ∙ ap (λ (l : List ℕ). take 62 l) (drop-take 2 62 image) ∙ take-take 62 62 (drop 2 image) (omega arith)

  pub other : 64 ≤ length first → get_or first 0 0 ≡ 1 → (asked : List ℕ) → asked ≡ marks header → (place : ℕ) → DiffersFirst (take 62 (drop 2 first)) asked place → OtherHeader header image (2 + place)
  other le gate asked same place d = other_of header image (made le gate) place (subst (λ (l : List ℕ). DiffersFirst l (marks header) place) middle (subst (λ (l : List ℕ). DiffersFirst (take 62 (drop 2 first)) l place) same d))

  pub agrees : (asked : List ℕ) → asked ≡ marks header → take 62 (drop 2 first) ≡ asked → HasHeader header image
  agrees asked same e = sym middle ∙ e ∙ same

  pub start : (area : ℕ) → area ≡ area_bytes header → 64 + get_or first 1 0 % 2 * area ≡ start_of header image
  start area e = ap (λ (n : ℕ). 64 + get_or first 1 0 % 2 * n) e ∙ ap (λ (n : ℕ). 64 + n % 2 * area_bytes header) (get_first 1 (omega arith))

pub area_at : (header : Header) (image : List ℕ) (start area : ℕ) → start ≡ start_of header image → area ≡ area_bytes header → take area (drop start image) ≡ area_of header image
area_at header image start area at size = ap (λ (n : ℕ). take n (drop start image)) size ∙ ap (λ (k : ℕ). take (area_bytes header) (drop k image)) at
