-- Reading items one after the other, as a loop does.
use Rattle.std.proofs.Common.{◌≡◌, ℕ, zero, suc, ◌-◌, ◌+◌, ◌≤◌, ◌<◌, List, [], ◌∷◌, ◌++◌, Result, Ok, Err, refl, sym, ap, ◌∙◌, append_assoc, arith}
use Rattle.std.proofs.lemmas.List.{append-nil}
use Rattle.coda_values.specs.declared.fault.Fault.{Fault}
use Rattle.coda_values.specs.declared.fault.Fault.TheVariants as faults
use Rattle.coda_values.specs.Form.{Form, gives, Format}
use Rattle.coda_values.specs.Parts.{items}
use Rattle.coda_values.specs.Reading.{◌>>=◌, read}
use Rattle.coda_values.specs.Outcome.{Fails}

same_then : {A B : Type 0} (r : Result A ℕ) (f g : A → Result B ℕ) → ((x : A) → f x ≡ g x) → (r >>= f) ≡ (r >>= g)
same_then (Ok x) f g h = h x
same_then (Err d) f g h = refl

-- what stands behind items may be put in other words
same_behind : {K A B : Type 0} (each : K → Format A) (key : A → K) (before : K) (n : ℕ) (f g : List A → Form B) (bytes : List ℕ) → ((xs : List A) → f xs ≡ g xs)
    → read (items each key before n f) bytes ≡ read (items each key before n g) bytes
same_behind each key before zero f g bytes h = ap (λ form. read form bytes) (h [])
same_behind each key before (suc n) f g bytes h =
    same_then (read (each before).form bytes) _ _ (λ x. same_behind each key (key x.0) n (λ xs. f (x.0 ∷ xs)) (λ xs. g (x.0 ∷ xs)) x.1 (λ xs. h (x.0 ∷ xs)))

-- what is read where these items were read before, and so many are still to come
abbrev pub left_to_read : {K A : Type 0} → (K → Format A) → (A → K) → K → List A → ℕ → List ℕ → Result (List A × List ℕ) ℕ
left_to_read each key before front n bytes = read (items each key before n (λ xs. gives (front ++ xs))) bytes

pub goes_on : {K A : Type 0} (each : K → Format A) (key : A → K) (before : K) (front : List A) (count i : ℕ) (bytes : List ℕ) (x : A) (after : List ℕ) (total : Result (List A × List ℕ) ℕ)
    → i < count → read (each before).form bytes ≡ Ok (x, after) → left_to_read each key before front (count - i) bytes ≡ total
    → left_to_read each key (key x) (front ++ x ∷ []) (count - (i + 1)) after ≡ total
goes_on each key before front count i bytes x after total lt one so_far =
    let k : count - i ≡ suc (count - (i + 1)) = omega arith in
    let step : left_to_read each key before front (count - i) bytes ≡ left_to_read each key (key x) (front ++ x ∷ []) (count - (i + 1)) after =
    rw (k, one) (same_behind each key (key x) (count - (i + 1)) (λ xs. gives (front ++ (x ∷ xs))) (λ xs. gives ((front ++ x ∷ []) ++ xs)) after (λ xs. ap (λ (ys : List _). gives ys) (sym (append_assoc front (x ∷ []) xs)))) in
    sym step ∙ so_far

pub fails : {K A : Type 0} (each : K → Format A) (key : A → K) (before : K) (front : List A) (count i : ℕ) (bytes : List ℕ) (e : Fault) (total : Result (List A × List ℕ) ℕ)
    → i < count → Fails e (read (each before).form bytes) → left_to_read each key before front (count - i) bytes ≡ total → Fails e total
fails each key before front count i bytes faults.Memory total lt one so_far = tt
fails each key before front count i bytes (faults.Broken left) total lt one so_far =
    let k : count - i ≡ suc (count - (i + 1)) = omega arith in
    let step : left_to_read each key before front (count - i) bytes ≡ Err left = rw (k, one) refl in
    sym so_far ∙ step

pub is_done : {K A : Type 0} (each : K → Format A) (key : A → K) (before : K) (front : List A) (count i : ℕ) (bytes : List ℕ) (total : Result (List A × List ℕ) ℕ)
    → count ≤ i → left_to_read each key before front (count - i) bytes ≡ total → total ≡ Ok (front, bytes)
is_done each key before front count i bytes total le so_far =
    let k : count - i ≡ 0 = omega arith in
    let step : left_to_read each key before front (count - i) bytes ≡ Ok (front, bytes) = rw k (ap (λ (xs : List _). Ok (xs, bytes)) (append-nil front)) in
    sym so_far ∙ step
