-- A script has one status.
use Rattle.std.proofs.Common.{◌≡◌, ◌≢◌, ℕ, ◌+◌, ◌⊎◌, Bool, IsTrue, List, [], ◌∷◌, ◌++◌, length, refl, sym, ap, subst, ◌∙◌, append_assoc, inl, inr, arith}
use Rattle.std.specs.Str.Lines.{lines}
use Rattle.std.proofs.lemmas.List.{append-nil}
use Rattle.std.proofs.lemmas.List.Elements.{All-tail}
use Rattle.coda_engine.specs.Lines.{HasNoNewline, IsWholeLines, IsWithinLimits}
use Rattle.coda_engine.specs.Machine.{Gives, Refuses}
use Rattle.coda_engine.specs.Run.{Runs, Answers}
use Rattle.coda_engine.specs.Exact.{TellsApart, IsClean, OneStatus}
use Rattle.coda_engine.specs.declared.status.Kind.{Kind}
use Rattle.coda_engine.specs.declared.status.Status.TheVariants.{Done, Usage, Script, SourceFault, SinkFault, TooLong, BayFault, Memory}
use Rattle.coda_engine.proofs.Splitting.{lines-more, lines-ended}
use Rattle.coda_engine.proofs.Standing.{whole_of}
use Rattle.coda_engine.proofs.Limits.{within_front}
use Rattle.coda_engine.proofs.OneRun.{runs_through, next_line, clean_scripts_run}

-- where a run of a script stops at a bad line
pub record StopsAt {M : Type 0} (gives : Gives M) (refuses : Refuses M) (start : M) (script : List ℕ) (line column : ℕ) (kind : Kind) : Type 0 where
  pub ls : List (List ℕ)
  pub bad : List ℕ
  pub more : List (List ℕ)
  pub report : List ℕ
  pub outside : List (List ℕ)
  pub state : M
  pub same : lines script ≡ ls ++ bad ∷ more
  pub runs : Runs gives start ls report outside state
  pub refused : refuses state bad column kind
  pub number : line ≡ length ls + 1

stops_at : {M : Type 0} (gives : Gives M) (refuses : Refuses M) (start new : M) (script read rest written : List ℕ) (outside : List (List ℕ)) (all : Bool) (line column : ℕ) (kind : Kind)
    → script ≡ read ++ rest → (IsTrue all → rest ≡ []) → Answers gives refuses start new all read written outside (Script line column kind) → StopsAt gives refuses start script line column kind
stops_at gives refuses start new script read rest written outside all line column kind e whole a =
    let next = next_line all a.0 a.1 a.2 rest a.4 whole in
    record {
      ls = lines a.0;
      bad = a.2;
      more = next.0;
      report = written;
      outside = outside;
      state = new;
      same = rw (e, a.3.split, append_assoc a.0 a.1 rest, lines-more a.0 (a.1 ++ rest) (whole_of a.3), next.1) refl;
      runs = a.3.runs;
      refused = a.5;
      number = a.6;
    }

-- two stops in one list of lines are one
same_stop : {M : Type 0} {Alike : M → M → Type 0} {gives : Gives M} {refuses : Refuses M} → TellsApart Alike gives refuses
    → (a b c d : M) (k l : ℕ) (j m : Kind) (xs ys more others : List (List ℕ)) (x y r s : List ℕ) (o p : List (List ℕ)) → Alike a b → Alike b a
    → Runs gives a xs r o c → Runs gives b ys s p d → refuses c x k j → refuses d y l m → xs ++ x ∷ more ≡ ys ++ y ∷ others
    → (length xs ≡ length ys) × (x ≡ y) × Alike c d
same_stop {Alike = Alike} tells a b c d k l j m [] [] more others x y r s o p alike back run go hard firm e =
    let Left : _ → Type 0 = λ state. Alike state b in
    let Right : _ → Type 0 = λ state. Alike c state in
    (refl, cc, subst Right (sym go.2) (subst Left (sym run.2) alike))
same_stop {refuses = refuses} tells a b c d k l j m [] (z ∷ ys) more others x y r s o p alike back run go hard firm e =
    let same : x ≡ z = cc in
    let Line : List ℕ → Type 0 = λ line. refuses a line k j in
    let State : _ → Type 0 = λ state. refuses state x k j in
    absurd (tells.apart b a go.0 z go.1 go.3 k j back go.5 (subst Line same (subst State run.2 hard)))
same_stop {refuses = refuses} tells a b c d k l j m (z ∷ xs) [] more others x y r s o p alike back run go hard firm e =
    let same : y ≡ z = cc in
    let Line : List ℕ → Type 0 = λ line. refuses b line l m in
    let State : _ → Type 0 = λ state. refuses state y l m in
    absurd (tells.apart a b run.0 z run.1 run.3 l m alike run.5 (subst Line same (subst State go.2 firm)))
same_stop {gives = gives} tells a b c d k l j m (z ∷ xs) (w ∷ ys) more others x y r s o p alike back run go hard firm e =
    let same : z ≡ w = cc in
    let tails : xs ++ x ∷ more ≡ ys ++ y ∷ others = cc in
    let Line : List ℕ → Type 0 = λ line. gives b line go.1 go.3 go.0 in
    let did = subst Line (sym same) go.5 in
    let there = tells.kept a b run.0 go.0 z run.1 go.1 run.3 go.3 alike run.5 did in
    let again = tells.kept b a go.0 run.0 z go.1 run.1 go.3 run.3 back did run.5 in
    let rec = same_stop tells run.0 go.0 c d k l j m xs ys more others x y run.2 go.2 run.4 go.4 there again run.6 go.6 hard firm tails in
    (omega (arith, rec.0), rec.1, rec.2)

-- of two fronts of one list, one is a front of the other
compare_fronts : (a b c d : List ℕ) → a ++ b ≡ c ++ d → ((u : List ℕ) × (c ≡ a ++ u) × (b ≡ u ++ d)) ⊎ ((u : List ℕ) × (a ≡ c ++ u) × (d ≡ u ++ b))
compare_fronts [] b c d e = inl (c, refl, e)
compare_fronts (x ∷ a) b [] d e = inr (x ∷ a, refl, sym e)
compare_fronts (x ∷ a) b (y ∷ c) d e =
    let head : x ≡ y = cc in
    let tails : a ++ b ≡ c ++ d = cc in
    elim (compare_fronts a b c d tails) [
      | inl f ↦ inl (f.0, rw (head, f.1) refl, f.2)
      | inr f ↦ inr (f.0, rw (head, f.1) refl, f.2)
    ]

one_stop : {M : Type 0} {Alike : M → M → Type 0} {gives : Gives M} {refuses : Refuses M} → TellsApart Alike gives refuses → (start start' : M) → Alike start start' → Alike start' start
    → (script : List ℕ) (n p k l : ℕ) (j m : Kind) → StopsAt gives refuses start script n k j → StopsAt gives refuses start' script p l m → Script n k j ≡ Script p l m
one_stop {refuses = refuses} tells start start' alike back script n p k l j m a b =
    let met = same_stop tells start start' a.state b.state k l j m a.ls b.ls a.more b.more a.bad b.bad a.report b.report a.outside b.outside alike back a.runs b.runs a.refused b.refused (sym a.same ∙ b.same) in
    let Line : List ℕ → Type 0 = λ line. refuses b.state line l m in
    let one = tells.single a.state b.state a.bad k l j m met.2 a.refused (subst Line (sym met.1) b.refused) in
    let number : n ≡ p = a.number ∙ ap (λ i. i + 1) met.0 ∙ sym b.number in
    let column : k ≡ l = one.0 in
    let kind : j ≡ m = one.1 in
    cc

-- where a run of a script passes a limit
pub record PassesAt {M : Type 0} (gives : Gives M) (start : M) (script : List ℕ) : Type 0 where
  pub front : List ℕ
  pub part : List ℕ
  pub byte : ℕ
  pub more : List ℕ
  pub report : List ℕ
  pub outside : List (List ℕ)
  pub state : M
  pub same : script ≡ ((front ++ part) ++ byte ∷ []) ++ more
  pub whole : IsWholeLines front
  pub clean : HasNoNewline part
  pub passed : IsWithinLimits ((front ++ part) ++ byte ∷ []) → ⊥
  pub runs : Runs gives start (lines front) report outside state

passes_at : {M : Type 0} (gives : Gives M) (refuses : Refuses M) (start new : M) (script read rest written : List ℕ) (outside : List (List ℕ)) (all : Bool) → script ≡ read ++ rest
    → Answers gives refuses start new all read written outside TooLong → PassesAt gives start script
passes_at gives refuses start new script read rest written outside all e a =
    let p = a.3 in
    record {
      front = a.0;
      part = p.0;
      byte = p.1;
      more = p.2 ++ rest;
      report = written;
      outside = outside;
      state = new;
      same = rw (e, a.2.split, p.3, append_assoc a.0 (p.0 ++ p.1 ∷ p.2) rest, append_assoc p.0 (p.1 ∷ p.2) rest, append_assoc (a.0 ++ p.0) (p.1 ∷ []) (p.2 ++ rest), append_assoc a.0 p.0 (p.1 ∷ (p.2 ++ rest))) refl;
      whole = whole_of a.2;
      clean = p.4;
      passed = p.6;
      runs = a.2.runs;
    }

not_both : (ys v : List ℕ) (x : ℕ) (xs : List ℕ) → [] ≡ ys ++ v → v ≡ x ∷ xs → ⊥
not_both [] v x xs e some = let d : [] ≡ x ∷ xs = e ∙ some in cc
not_both (y ∷ ys) v x xs e some = cc

tail_of : (y v : List ℕ) (x : ℕ) (xs : List ℕ) → 10 ∷ [] ≡ y ++ v → v ≡ x ∷ xs → (z : List ℕ) × (v ≡ z ++ 10 ∷ [])
tail_of [] v x xs e some = ([], sym e)
tail_of (y ∷ ys) v x xs e some = let d : [] ≡ ys ++ v = cc in absurd (not_both ys v x xs d some)

-- the end of what ends with a newline ends with it too, where it isn't empty
newline_last : (before front v : List ℕ) (x : ℕ) (xs : List ℕ) → before ++ 10 ∷ [] ≡ front ++ v → v ≡ x ∷ xs → (y : List ℕ) × (v ≡ y ++ 10 ∷ [])
newline_last before front v x xs e some =
    elim (compare_fronts before (10 ∷ []) front v e) [
      | inl f ↦ tail_of f.0 v x xs f.2 some
      | inr f ↦ (f.0, f.2)
    ]

nothing_there : (y u : List ℕ) → [] ≡ (y ++ 10 ∷ []) ++ u → ⊥
nothing_there [] u e = cc
nothing_there (b ∷ y) u e = cc

-- whole lines that reach past a newline-free part but its last byte reach past all of it
reaches : (y part u : List ℕ) (byte : ℕ) → HasNoNewline part → part ++ byte ∷ [] ≡ (y ++ 10 ∷ []) ++ u → u ≡ []
reaches [] [] u byte clean e = cc
reaches [] (p ∷ part) u byte clean e = let first : p ≡ 10 = cc in absurd (clean 0 0 (omega arith) first)
reaches (b ∷ y) [] u byte clean e =
    let d : [] ≡ (y ++ 10 ∷ []) ++ u = cc in
    absurd (nothing_there y u d)
reaches (b ∷ y) (p ∷ part) u byte clean e =
    let tails : part ++ byte ∷ [] ≡ (y ++ 10 ∷ []) ++ u = cc in
    reaches y part u byte (All-tail (λ x. x ≢ 10) p part clean) tails

-- a whole line within the limits stands before the byte that passes them: its front has the line
before_limit : (before u f part : List ℕ) (byte : ℕ) → HasNoNewline part → (f ++ part) ++ byte ∷ [] ≡ (before ++ 10 ∷ []) ++ u → IsWithinLimits (before ++ 10 ∷ [])
    → (IsWithinLimits ((f ++ part) ++ byte ∷ []) → ⊥) → (v : List ℕ) × (f ≡ (before ++ 10 ∷ []) ++ v)
before_limit before u f part byte clean e within passed =
    elim (compare_fronts f (part ++ byte ∷ []) (before ++ 10 ∷ []) u (sym (append_assoc f part (byte ∷ [])) ∙ e)) [
      | inl g ↦ inside g.0 g.1 g.2
      | inr g ↦ (g.0, g.1)
    ]
  where
    inside : (v : List ℕ) → before ++ 10 ∷ [] ≡ f ++ v → part ++ byte ∷ [] ≡ v ++ u → (v : List ℕ) × (f ≡ (before ++ 10 ∷ []) ++ v)
    inside [] g h = ([], rw (append-nil (before ++ 10 ∷ []), g) (sym (append-nil f)))
    inside (x ∷ xs) g h =
        let y = newline_last before f (x ∷ xs) x xs g refl in
        let P : List ℕ → Type 0 = λ w. part ++ byte ∷ [] ≡ w ++ u in
        let none : u ≡ [] = reaches y.0 part u byte clean (subst P y.1 h) in
        absurd (passed (rw (e, none, append-nil (before ++ 10 ∷ [])) within))

-- no script is bad in one run and too long in another
one_kind : {M : Type 0} {Alike : M → M → Type 0} {gives : Gives M} {refuses : Refuses M} → TellsApart Alike gives refuses → (start start' new : M) → Alike start' start
    → (script read rest written : List ℕ) (outside : List (List ℕ)) (all : Bool) (line column : ℕ) (kind : Kind) → script ≡ read ++ rest → (IsTrue all → rest ≡ [])
    → Answers gives refuses start new all read written outside (Script line column kind) → PassesAt gives start' script → ⊥
one_kind {gives = gives} tells start start' new alike script read rest written outside all line column kind e whole a q =
    let front = a.0 in
    elim a.4 [
      | inl n ↦
          let start_is : script ≡ ((front ++ n.0) ++ 10 ∷ []) ++ (n.1 ++ rest) =
          rw (e, a.3.split, n.2, append_assoc front (n.0 ++ 10 ∷ n.1) rest, append_assoc n.0 (10 ∷ n.1) rest, append_assoc (front ++ n.0) (10 ∷ []) (n.1 ++ rest), append_assoc front n.0 (10 ∷ (n.1 ++ rest))) refl in
          elim (compare_fronts ((front ++ n.0) ++ 10 ∷ []) (n.1 ++ rest) ((q.front ++ q.part) ++ q.byte ∷ []) q.more (sym start_is ∙ q.same)) [
            | inl u ↦
                let f = before_limit (front ++ n.0) u.0 q.front q.part q.byte q.clean u.1 n.4 q.passed in
                let same : lines q.front ≡ lines front ++ a.2 ∷ lines f.0 =
                ap lines f.1 ∙ rw (lines-more ((front ++ n.0) ++ 10 ∷ []) f.0 (inr (front ++ n.0, refl)), append_assoc front n.0 (10 ∷ []), lines-more front (n.0 ++ 10 ∷ []) (whole_of a.3), lines-ended n.0 n.3, ← n.5, append_assoc (lines front) (a.2 ∷ []) (lines f.0)) refl in
                let Run : List (List ℕ) → Type 0 = λ ls. Runs gives start' ls q.report q.outside q.state in
                let through = runs_through tells start start' new q.state (lines front) (lines f.0) a.2 written q.report outside q.outside alike a.3.runs (subst Run same q.runs) in
                tells.apart through.0 new through.1 a.2 through.2 through.3 column kind through.4 through.5 a.5
            | inr u ↦ q.passed (within_front ((q.front ++ q.part) ++ q.byte ∷ []) u.0 (rw u.1 at n.4))
          ]
      | inr n ↦
          let start_is : script ≡ front ++ a.1 = rw (e, a.3.split, whole n.0, append-nil (front ++ a.1)) refl in
          q.passed (within_front ((q.front ++ q.part) ++ q.byte ∷ []) q.more (rw (sym start_is ∙ q.same) at n.3))
    ]

done_clean : {M : Type 0} (gives : Gives M) (refuses : Refuses M) (start new : M) (script read rest written : List ℕ) (outside : List (List ℕ)) (all : Bool) → script ≡ read ++ rest
    → (IsTrue all → rest ≡ []) → Answers gives refuses start new all read written outside Done → IsClean gives start script
done_clean gives refuses start new script read rest written outside all e whole a =
    let same : script ≡ read = e ∙ (rw (whole a.0) (append-nil read)) in
    rw same (a.1.within, (written, outside, new, a.1.runs))

-- Two runs of one script from states that are alike, that no fault and no want of memory ended, have one status.
pub one_status : {M : Type 0} {Alike : M → M → Type 0} {gives : Gives M} {refuses : Refuses M} → TellsApart Alike gives refuses
    → (start start' : M) → Alike start start' → Alike start' start → OneStatus gives refuses start start'
one_status tells s t alike back script read rest written read' rest' written' o o' new new' all all' Done Done e w a i e' w' a' i' = refl
one_status {gives = gives} {refuses = refuses} tells s t alike back script read rest written read' rest' written' o o' new new' all all' Done TooLong e w a i e' w' a' i' =
    absurd (clean_scripts_run tells s t alike script read' rest' written' o' new' all' TooLong e' w' (done_clean gives refuses s new script read rest written o all e w a) a')
one_status {gives = gives} {refuses = refuses} tells s t alike back script read rest written read' rest' written' o o' new new' all all' Done (Script l c k) e w a i e' w' a' i' =
    absurd (clean_scripts_run tells s t alike script read' rest' written' o' new' all' (Script l c k) e' w' (done_clean gives refuses s new script read rest written o all e w a) a')
one_status {gives = gives} {refuses = refuses} tells s t alike back script read rest written read' rest' written' o o' new new' all all' TooLong Done e w a i e' w' a' i' =
    absurd (clean_scripts_run tells t s back script read rest written o new all TooLong e w (done_clean gives refuses t new' script read' rest' written' o' all' e' w' a') a)
one_status {gives = gives} {refuses = refuses} tells s t alike back script read rest written read' rest' written' o o' new new' all all' (Script l c k) Done e w a i e' w' a' i' =
    absurd (clean_scripts_run tells t s back script read rest written o new all (Script l c k) e w (done_clean gives refuses t new' script read' rest' written' o' all' e' w' a') a)
one_status tells s t alike back script read rest written read' rest' written' o o' new new' all all' TooLong TooLong e w a i e' w' a' i' = refl
one_status {gives = gives} {refuses = refuses} tells s t alike back script read rest written read' rest' written' o o' new new' all all' (Script l c k) TooLong e w a i e' w' a' i' =
    absurd (one_kind tells s t new back script read rest written o all l c k e w a (passes_at gives refuses t new' script read' rest' written' o' all' e' a'))
one_status {gives = gives} {refuses = refuses} tells s t alike back script read rest written read' rest' written' o o' new new' all all' TooLong (Script l c k) e w a i e' w' a' i' =
    absurd (one_kind tells t s new' alike script read' rest' written' o' all' l c k e' w' a' (passes_at gives refuses s new script read rest written o all e a))
one_status {gives = gives} {refuses = refuses} tells s t alike back script read rest written read' rest' written' o o' new new' all all' (Script l c k) (Script m d j) e w a i e' w' a' i' =
    one_stop tells s t alike back script l m c d k j (stops_at gives refuses s new script read rest written o all l c k e w a) (stops_at gives refuses t new' script read' rest' written' o' all' m d j e' w' a')
one_status tells s t alike back script read rest written read' rest' written' o o' new new' all all' SourceFault status e w a i e' w' a' i' = absurd i
one_status tells s t alike back script read rest written read' rest' written' o o' new new' all all' SinkFault status e w a i e' w' a' i' = absurd i
one_status tells s t alike back script read rest written read' rest' written' o o' new new' all all' BayFault status e w a i e' w' a' i' = absurd i
one_status tells s t alike back script read rest written read' rest' written' o o' new new' all all' Memory status e w a i e' w' a' i' = absurd i
one_status tells s t alike back script read rest written read' rest' written' o o' new new' all all' Usage status e w a i e' w' a' i' = absurd i
one_status tells s t alike back script read rest written read' rest' written' o o' new new' all all' status SourceFault e w a i e' w' a' i' = absurd i'
one_status tells s t alike back script read rest written read' rest' written' o o' new new' all all' status SinkFault e w a i e' w' a' i' = absurd i'
one_status tells s t alike back script read rest written read' rest' written' o o' new new' all all' status BayFault e w a i e' w' a' i' = absurd i'
one_status tells s t alike back script read rest written read' rest' written' o o' new new' all all' status Memory e w a i e' w' a' i' = absurd i'
one_status tells s t alike back script read rest written read' rest' written' o o' new new' all all' status Usage e w a i e' w' a' i' = absurd i'
