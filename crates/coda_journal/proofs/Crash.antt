-- What each device call of `append` leaves.
use Rattle.std.proofs.Common.{◌≡◌, ℕ, suc, ◌+◌, List, [], ◌∷◌, ◌++◌, length, get_or, take, drop, sym, ◌∙◌, ap, arith, append_assoc, length-append, take-append-drop}
use Rattle.std.proofs.lemmas.List.{take_at, drop_at, drop_more}
use Rattle.coda_journal.specs.Synced.{IsPut}
use Rattle.coda_disk.specs.Told.{Torn}

module _ (front : List ℕ) (n : ℕ) (size : n ≡ length front) where
  -- a write behind the gate leaves it as it is
  pub torn_behind : (gate : ℕ) (rest : List ℕ) (m : ℕ) (c : List ℕ) → Torn (n + 1) m (front ++ gate ∷ rest) c → c ≡ front ++ gate ∷ drop (n + 1) c
  torn_behind gate rest m c torn =
      let one : length (front ++ gate ∷ []) ≡ n + 1 = omega (arith, length-append front (gate ∷ [])) in
      let head : take (n + 1) c ≡ front ++ gate ∷ [] = torn.before ∙ ap (λ (l : List ℕ). take (n + 1) l) (sym (append_assoc front (gate ∷ []) rest)) ∙ take_at (front ++ gate ∷ []) rest (n + 1) one in
      sym (take-append-drop (n + 1) c) ∙ ap (λ (l : List ℕ). l ++ drop (n + 1) c) head ∙ append_assoc front (gate ∷ []) (drop (n + 1) c)

  pub written_behind : (gate : ℕ) (rest bytes c : List ℕ) → IsPut (front ++ gate ∷ rest) (n + 1) bytes c → c ≡ front ++ gate ∷ (bytes ++ drop (n + 1 + length bytes) (front ++ gate ∷ rest))
  written_behind gate rest bytes c holds =
      let one : length (front ++ gate ∷ []) ≡ n + 1 = omega (arith, length-append front (gate ∷ [])) in
      let more = drop (n + 1 + length bytes) (front ++ gate ∷ rest) in
      let head : take (n + 1) (front ++ gate ∷ rest) ≡ front ++ gate ∷ [] = ap (λ (l : List ℕ). take (n + 1) l) (sym (append_assoc front (gate ∷ []) rest)) ∙ take_at (front ++ gate ∷ []) rest (n + 1) one in
      holds ∙ ap (λ (l : List ℕ). l ++ bytes ++ more) head ∙ append_assoc (front ++ gate ∷ []) bytes more ∙ append_assoc front (gate ∷ []) (bytes ++ more)

  behind : (gate : ℕ) (rest : List ℕ) → drop (n + 1) (front ++ gate ∷ rest) ≡ rest
  behind gate rest =
      let one : length (front ++ gate ∷ []) ≡ n + 1 = omega (arith, length-append front (gate ∷ [])) in
      ap (λ (l : List ℕ). drop (n + 1) l) (sym (append_assoc front (gate ∷ []) rest)) ∙ drop_at (front ++ gate ∷ []) rest (n + 1) one

  -- a write of the gate alone leaves all else
  pub torn_gate : (gate : ℕ) (rest c : List ℕ) → Torn n 1 (front ++ gate ∷ rest) c → c ≡ front ++ get_or c n 0 ∷ rest
  torn_gate gate rest c torn =
      let long : length (front ++ gate ∷ rest) ≡ n + suc (length rest) = omega (arith, length-append front (gate ∷ rest)) in
      let tail : drop n c ≡ get_or c n 0 ∷ rest = drop_more c n 0 (omega (arith, torn.no_shorter)) ∙ ap (λ (l : List ℕ). get_or c n 0 ∷ l) (torn.after ∙ behind gate rest) in
      sym (take-append-drop n c) ∙ ap (λ (l : List ℕ). l ++ drop n c) (torn.before ∙ take_at front (gate ∷ rest) n (sym size)) ∙ ap (λ (l : List ℕ). front ++ l) tail

  pub written_gate : (gate : ℕ) (rest c : List ℕ) → IsPut (front ++ gate ∷ rest) n (1 ∷ []) c → c ≡ front ++ 1 ∷ rest
  written_gate gate rest c holds =
      holds ∙ ap (λ (l : List ℕ). l ++ (1 ∷ []) ++ drop (n + 1) (front ++ gate ∷ rest)) (take_at front (gate ∷ rest) n (sym size))
      ∙ ap (λ (l : List ℕ). front ++ (1 ∷ []) ++ l) (behind gate rest) ∙ append_assoc front (1 ∷ []) rest
