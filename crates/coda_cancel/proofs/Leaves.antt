-- What leaves where an operation is added: its numbers, how many, and what they weigh, record by record.
use Rattle.std.proofs.Common.{◌≡◌, ℕ, ◌+◌, ◌<◌, ◌≤◌, Bool, true, false, cond, List, [], ◌∷◌, ◌++◌, Option, Some, None, length, length-append, take, drop, get_or, refl, sym, ap, ◌∙◌, arith}
use Rattle.std.specs.Option.{option_or}
use Rattle.std.specs.Prelude.{is_some}
use Rattle.std.proofs.lemmas.Bool.{le-leb, true≢false}
use Rattle.std.proofs.lemmas.List.{append-nil, take_more, take-append-drop}
use Rattle.coda_fid.specs.declared.fid.Fid.{Fid}
use Rattle.coda_fid.specs.declared.op.Op.{Op}
use Rattle.coda_fid.specs.declared.op.Record.{Record}
use Rattle.coda_fid.specs.Op.{carried, weight_of}
use Rattle.coda_fid.specs.declared.op.Op.TheVariants.{Create, Mkdir, Symlink, Store, Setattr, Remove, Rmdir, Rename}
use Rattle.coda_cancel.specs.Cancel.{object, cancels}
use Rattle.coda_cancel.specs.Dropping.{drops, writes_over}
use Rattle.coda_cancel.specs.Mentions.{is_upto}
use Rattle.coda_cancel.specs.Numbers.{numbers, lesser, least}
use Rattle.coda_cancel.specs.Passing.{goes, undropped}
use Rattle.coda_cancel.specs.Weights.{total_weight}
use Rattle.coda_cancel.proofs.Sizes.{total-append}
use Rattle.coda_cancel.proofs.Walks.{upto, beyond, both_parts, AllUpTo, upto_passed, IsQuiet, Step, reached_below}
use Rattle.coda_cancel.proofs.Quiet.{numbers_quiet, undropped_quiet, numbers-append, undropped-append}

-- the first number, and else another
abbrev pub or_number : Option ℕ → ℕ → Option ℕ
or_number (Some k) n = Some k
or_number None n = Some n

abbrev NumbersBelow : ℕ → List ℕ → Type 0
NumbersBelow n [] = Unit {0}
NumbersBelow n (k ∷ ks) = (k < n) × NumbersBelow n ks

least_push : (n : ℕ) (ks : List ℕ) → NumbersBelow n ks → least (ks ++ n ∷ []) ≡ or_number (least ks) n
least_push n [] h = refl
least_push n (k ∷ []) h = ap (λ b. Some (cond b k n)) (le-leb k n (omega (arith, h.0)))
least_push n (k ∷ next ∷ ks) h = ap (λ o. Some (lesser k o)) (least_push n (next ∷ ks) h.1)

numbers_below : (a : Option ℕ) (n : ℕ) (t : Op → Bool) (rs : List Record) → is_upto a n ≡ false → AllUpTo a rs → NumbersBelow n (numbers t rs)
numbers_below a n t [] after h = tt
numbers_below a n t (r ∷ rs) after h = go (t r.op) (numbers_below a n t rs after h.1)
  where
    go : (b : Bool) → NumbersBelow n (numbers t rs) → NumbersBelow n (cond b (r.number ∷ numbers t rs) (numbers t rs))
    go true rest = (reached_below a r.number n h.0 after, rest)
    go false rest = rest

module _ (o : Op) (f : Fid) (own : object (carried o) ≡ f) (b : Bool) (rs : List Record) (a : Option ℕ) where
  abbrev t : Op → Bool
  t = goes b o

  module _ (n : ℕ) (s : Step f a n rs) where
    numbers_step : numbers t (upto (Some n) rs) ≡ numbers t (upto a rs) ++ numbers t (s.found ∷ [])
    numbers_step = ap (numbers t) s.front ∙ numbers-append t (upto a rs) (s.between ++ s.found ∷ [])
        ∙ ap (λ l. numbers t (upto a rs) ++ l) (numbers-append t s.between (s.found ∷ []) ∙ ap (λ l. l ++ numbers t (s.found ∷ [])) (numbers_quiet o f own b s.between s.quiet))

    undropped_step : undropped t (upto (Some n) rs) ≡ undropped t (upto a rs) ++ (s.between ++ undropped t (s.found ∷ []))
    undropped_step = ap (undropped t) s.front ∙ undropped-append t (upto a rs) (s.between ++ s.found ∷ [])
        ∙ ap (λ l. undropped t (upto a rs) ++ l) (undropped-append t s.between (s.found ∷ []) ∙ ap (λ l. l ++ undropped t (s.found ∷ [])) (undropped_quiet o f own b s.between s.quiet))

    length_two : (xs ys zs : List Record) → length (xs ++ (ys ++ zs)) ≡ length xs + (length ys + length zs)
    length_two xs ys zs = length-append xs (ys ++ zs) ∙ ap (λ k. length xs + k) (length-append ys zs)

    total_two : (xs ys zs : List Record) → total_weight (xs ++ (ys ++ zs)) ≡ total_weight xs + (total_weight ys + total_weight zs)
    total_two xs ys zs = total-append xs (ys ++ zs) ∙ ap (λ k. total_weight xs + k) (total-append ys zs)

    -- it goes
    pub least_gone : is_upto a n ≡ false → t s.found.op ≡ true → least (numbers t (upto (Some n) rs)) ≡ or_number (least (numbers t (upto a rs))) n
    least_gone after e = ap least (numbers_step ∙ ap (λ x. numbers t (upto a rs) ++ cond x (s.found.number ∷ []) []) e ∙ ap (λ m. numbers t (upto a rs) ++ m ∷ []) s.is) ∙ least_push n (numbers t (upto a rs)) (numbers_below a n t (upto a rs) after (upto_passed a rs))

    pub count_gone : (count : ℕ) → t s.found.op ≡ true → count + length (undropped t (upto a rs)) ≡ length (upto a rs) → count + 1 + length (undropped t (upto (Some n) rs)) ≡ length (upto (Some n) rs)
    count_gone count e h =
        let left = ap length (undropped_step ∙ ap (λ x. undropped t (upto a rs) ++ (s.between ++ cond x [] (s.found ∷ []))) e) ∙ length_two (undropped t (upto a rs)) s.between [] in
        let all = ap length s.front ∙ length_two (upto a rs) s.between (s.found ∷ []) in
        omega (arith, left, all, h)

    pub weight_gone : (weight : ℕ) → t s.found.op ≡ true → weight + total_weight (undropped t (upto a rs)) ≡ total_weight (upto a rs) → weight + weight_of s.found.op + total_weight (undropped t (upto (Some n) rs)) ≡ total_weight (upto (Some n) rs)
    weight_gone weight e h =
        let left = ap total_weight (undropped_step ∙ ap (λ x. undropped t (upto a rs) ++ (s.between ++ cond x [] (s.found ∷ []))) e) ∙ total_two (undropped t (upto a rs)) s.between [] in
        let all = ap total_weight s.front ∙ total_two (upto a rs) s.between (s.found ∷ []) in
        omega (arith, left, all, h)

    -- it stays
    pub least_kept : t s.found.op ≡ false → least (numbers t (upto (Some n) rs)) ≡ least (numbers t (upto a rs))
    least_kept e = ap least (numbers_step ∙ ap (λ x. numbers t (upto a rs) ++ cond x (s.found.number ∷ []) []) e ∙ append-nil (numbers t (upto a rs)))

    pub count_kept : (count : ℕ) → t s.found.op ≡ false → count + length (undropped t (upto a rs)) ≡ length (upto a rs) → count + length (undropped t (upto (Some n) rs)) ≡ length (upto (Some n) rs)
    count_kept count e h =
        let left = ap length (undropped_step ∙ ap (λ x. undropped t (upto a rs) ++ (s.between ++ cond x [] (s.found ∷ []))) e) ∙ length_two (undropped t (upto a rs)) s.between (s.found ∷ []) in
        let all = ap length s.front ∙ length_two (upto a rs) s.between (s.found ∷ []) in
        omega (arith, left, all, h)

    pub weight_kept : (weight : ℕ) → t s.found.op ≡ false → weight + total_weight (undropped t (upto a rs)) ≡ total_weight (upto a rs) → weight + total_weight (undropped t (upto (Some n) rs)) ≡ total_weight (upto (Some n) rs)
    weight_kept weight e h =
        let left = ap total_weight (undropped_step ∙ ap (λ x. undropped t (upto a rs) ++ (s.between ++ cond x [] (s.found ∷ []))) e) ∙ total_two (undropped t (upto a rs)) s.between (s.found ∷ []) in
        let all = ap total_weight s.front ∙ total_two (upto a rs) s.between (s.found ∷ []) in
        omega (arith, left, all, h)

    -- what was seen so far is within the whole
    pub few_so_far : (count : ℕ) → count + length (undropped t (upto a rs)) ≡ length (upto a rs) → count + 1 ≤ length rs
    few_so_far count h =
        let whole = ap length (sym (both_parts (Some n) rs)) ∙ length-append (upto (Some n) rs) (beyond (Some n) rs) in
        let all = ap length s.front ∙ length_two (upto a rs) s.between (s.found ∷ []) in
        omega (arith, whole, all, h)

    pub light_so_far : (weight : ℕ) → weight + total_weight (undropped t (upto a rs)) ≡ total_weight (upto a rs) → weight + weight_of s.found.op ≤ total_weight rs
    light_so_far weight h =
        let whole = ap total_weight (sym (both_parts (Some n) rs)) ∙ total-append (upto (Some n) rs) (beyond (Some n) rs) in
        let all = ap total_weight s.front ∙ total_two (upto a rs) s.between (s.found ∷ []) in
        omega (arith, whole, all, h)

  module _ (quiet : IsQuiet f (beyond a rs)) where
    pub least_end : least (numbers t (upto a rs)) ≡ least (numbers t rs)
    least_end = ap least (sym (append-nil (numbers t (upto a rs))) ∙ ap (λ l. numbers t (upto a rs) ++ l) (sym (numbers_quiet o f own b (beyond a rs) quiet)) ∙ sym (numbers-append t (upto a rs) (beyond a rs)) ∙ ap (numbers t) (both_parts a rs))

    undropped_end : undropped t (upto a rs) ++ beyond a rs ≡ undropped t rs
    undropped_end = ap (λ l. undropped t (upto a rs) ++ l) (sym (undropped_quiet o f own b (beyond a rs) quiet)) ∙ sym (undropped-append t (upto a rs) (beyond a rs)) ∙ ap (undropped t) (both_parts a rs)

    pub count_end : (count : ℕ) → count + length (undropped t (upto a rs)) ≡ length (upto a rs) → count + length (undropped t rs) ≡ length rs
    count_end count h =
        let left = ap length (sym undropped_end) ∙ length-append (undropped t (upto a rs)) (beyond a rs) in
        let whole = ap length (sym (both_parts a rs)) ∙ length-append (upto a rs) (beyond a rs) in
        omega (arith, left, whole, h)

    pub weight_end : (weight : ℕ) → weight + total_weight (undropped t (upto a rs)) ≡ total_weight (upto a rs) → weight + total_weight (undropped t rs) ≡ total_weight rs
    weight_end weight h =
        let left = ap total_weight (sym undropped_end) ∙ total-append (undropped t (upto a rs)) (beyond a rs) in
        let whole = ap total_weight (sym (both_parts a rs)) ∙ total-append (upto a rs) (beyond a rs) in
        omega (arith, left, whole, h)

-- ---- what several weigh

pub total-more : (i : ℕ) (rs : List Record) (d : Record) → i < length rs → total_weight (take (i + 1) rs) ≡ total_weight (take i rs) + weight_of (get_or rs i d).op
total-more i rs d l = let one = ap total_weight (take_more rs i d l) ∙ total-append (take i rs) (get_or rs i d ∷ []) in omega (arith, one)

pub total-front : (i : ℕ) (rs : List Record) → total_weight (take i rs) ≤ total_weight rs
total-front i rs = let all = ap total_weight (sym (take-append-drop i rs)) ∙ total-append (take i rs) (drop i rs) in omega (arith, all)

pub or_same : (o : Option ℕ) (n : ℕ) → option_or o (Some n) ≡ or_number o n
or_same (Some k) n = refl
or_same None n = refl

-- an operation without a kept version makes nothing needless
module _ (o : Op) (none : carried o ≡ None) where
  pub never_cancels : (rs : List Record) → cancels o rs ≡ false
  never_cancels rs = elim o as (λ o. carried o ≡ None → cancels o rs ≡ false) [
    | Create dir name fid mode owner ↦ λ h. refl
    | Mkdir dir name fid mode owner ↦ λ h. refl
    | Symlink dir name fid target mode owner ↦ λ h. refl
    | Store fid pre content ↦ λ h. refl
    | Setattr fid pre attrs ↦ λ h. refl
    | Remove dir name fid pre ↦ λ h. absurd (true≢false (ap is_some h))
    | Rmdir dir name fid pre ↦ λ h. absurd (true≢false (ap is_some h))
    | Rename from_dir from to_dir to fid over ↦ λ h. refl
  ] none

  never_drops : (earlier : Op) → drops o earlier ≡ false
  never_drops earlier = elim o as (λ o. carried o ≡ None → drops o earlier ≡ false) [
    | Create dir name fid mode owner ↦ λ h. refl
    | Mkdir dir name fid mode owner ↦ λ h. refl
    | Symlink dir name fid target mode owner ↦ λ h. refl
    | Store fid pre content ↦ λ h. absurd (true≢false (ap is_some h))
    | Setattr fid pre attrs ↦ λ h. absurd (true≢false (ap is_some h))
    | Remove dir name fid pre ↦ λ h. absurd (true≢false (ap is_some h))
    | Rmdir dir name fid pre ↦ λ h. absurd (true≢false (ap is_some h))
    | Rename from_dir from to_dir to fid over ↦ λ h. ap (λ over. writes_over over earlier) h
  ] none

  pub none_numbered : (rs : List Record) → numbers (goes false o) rs ≡ []
  none_numbered [] = refl
  none_numbered (r ∷ rs) = ap (λ b. cond b (r.number ∷ numbers (goes false o) rs) (numbers (goes false o) rs)) (never_drops r.op) ∙ none_numbered rs

  pub none_dropped : (rs : List Record) → undropped (goes false o) rs ≡ rs
  none_dropped [] = refl
  none_dropped (r ∷ rs) = ap (λ b. cond b (undropped (goes false o) rs) (r ∷ undropped (goes false o) rs)) (never_drops r.op) ∙ ap (λ l. r ∷ l) (none_dropped rs)
