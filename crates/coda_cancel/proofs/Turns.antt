-- One turn of adding operations that wait in reverse.
use Rattle.std.proofs.Common.{◌≡◌, List, [], ◌∷◌, ◌++◌, sym, ap, ◌∙◌, subst, reverse, append_assoc}
use Rattle.std.proofs.lemmas.List.{append-nil, reverse-append}
use Rattle.coda_fid.specs.declared.op.Record.{Record}
use Rattle.coda_cancel.specs.declared.join.Join.{Join}
use Rattle.coda_cancel.specs.Cancel.{add, added}
use Rattle.coda_cancel.specs.Numbers.{IsRising, dropped, least}
use Rattle.coda_cancel.specs.Joins.{noted, joins_of}
use Rattle.coda_cancel.proofs.Rising.{rising_before, rising_step}

-- the last of those that wait is the next
pub turned : (waiting left : List Record) (o : Record) → waiting ≡ left ++ o ∷ [] → reverse waiting ≡ o ∷ reverse left
turned waiting left o e = ap reverse e ∙ reverse-append left (o ∷ [])

module _ (rs waiting left after : List Record) (o : Record) (popped : waiting ≡ left ++ o ∷ []) (step : after ≡ add rs o) where
  pub turn_added : (goal : List Record) → added rs (reverse waiting) ≡ goal → added after (reverse left) ≡ goal
  turn_added goal h = (λ i. added (step i) (reverse left)) ∙ ap (added rs) (sym (turned waiting left o popped)) ∙ h

  pub turn_rising : IsRising (rs ++ reverse waiting) → IsRising (after ++ reverse left)
  turn_rising h = subst (λ l. IsRising (l ++ reverse left)) (sym step) (rising_step rs o (reverse left) (subst (λ l. IsRising (rs ++ l)) (turned waiting left o popped) h))

  pub turn_joins : (joins goal : List Join) → joins ++ joins_of rs (reverse waiting) ≡ goal → (joins ++ noted o.number (least (dropped rs o))) ++ joins_of after (reverse left) ≡ goal
  turn_joins joins goal h = append_assoc joins (noted o.number (least (dropped rs o))) (joins_of after (reverse left))
      ∙ (λ i. joins ++ (noted o.number (least (dropped rs o)) ++ joins_of (step i) (reverse left))) ∙ ap (λ l. joins ++ joins_of rs l) (sym (turned waiting left o popped)) ∙ h

pub rising_now : (rs waiting left : List Record) (o : Record) → waiting ≡ left ++ o ∷ [] → IsRising (rs ++ reverse waiting) → IsRising rs
rising_now rs waiting left o popped h = (rising_before rs o (reverse left) (subst (λ l. IsRising (rs ++ l)) (turned waiting left o popped) h)).0

rising_front : (rs : List Record) → IsRising (rs ++ []) → IsRising rs
rising_front rs h = subst IsRising (append-nil rs) h

-- after operations of ever greater numbers the numbers rise
pub rising_added : (rs os : List Record) → IsRising (rs ++ os) → IsRising (added rs os)
rising_added rs [] h = rising_front rs h
rising_added rs (o ∷ os) h = rising_added (add rs o) os (rising_step rs o os h)
