-- Runs of one script from states that refuse the same lines, and why a clean script is never refused.
use Rattle.std.proofs.Common.{◌≡◌, ℕ, Bool, IsTrue, List, [], ◌∷◌, ◌++◌, refl, sym, subst, append_assoc, inl, inr}
use Rattle.std.specs.Str.Lines.{lines}
use Rattle.std.proofs.lemmas.List.{append-nil}
use Rattle.coda_engine.specs.Machine.{Gives, Refuses}
use Rattle.coda_engine.specs.Run.{Runs, IsNext}
use Rattle.coda_engine.specs.Exact.{TellsApart, CleanScriptsRun}
use Rattle.coda_engine.specs.declared.status.Status.TheVariants.{Done, Usage, Script, SourceFault, SinkFault, TooLong, BayFault, Memory}
use Rattle.coda_engine.proofs.Splitting.{lines-more, lines-ended, lines-last}
use Rattle.coda_engine.proofs.Standing.{whole_of}
use Rattle.coda_engine.proofs.Limits.{within_front}

-- a longer run from b comes, after the lines of a run from a, to a state that is alike, and goes on by the next line
pub runs_through : {M : Type 0} {Alike : M → M → Type 0} {gives : Gives M} {refuses : Refuses M} → TellsApart Alike gives refuses
    → (a b at new : M) (ls more : List (List ℕ)) (line report text : List ℕ) (outside answers : List (List ℕ)) → Alike b a
    → Runs gives a ls report outside at → Runs gives b (ls ++ line ∷ more) text answers new
    → (there : M) × (next : M) × (said : List ℕ) × (answered : List (List ℕ)) × Alike there at × gives there line said answered next
runs_through {Alike = Alike} tells a b at new [] more line report text outside answers alike run go =
    let Likes : _ → Type 0 = λ state. Alike b state in
    (b, go.0, go.1, go.3, subst Likes (sym run.2) alike, go.5)
runs_through tells a b at new (l ∷ ls) more line report text outside answers alike run go =
    let after = tells.kept b a go.0 run.0 l go.1 run.1 go.3 run.3 alike go.5 run.5 in
    runs_through tells run.0 go.0 at new ls more line run.2 go.2 run.4 go.4 after run.6 go.6

-- the line that comes next is the next of the whole script
pub next_line : (all : Bool) (front rest line tail : List ℕ) → IsNext all front rest line → (IsTrue all → tail ≡ []) → (more : List (List ℕ)) × (lines (rest ++ tail) ≡ line ∷ more)
next_line all front rest line tail (inl n) whole =
    (lines (n.1 ++ tail), rw (n.2, append_assoc n.0 (10 ∷ n.1) tail, ← append_assoc n.0 (10 ∷ []) (n.1 ++ tail), lines-more (n.0 ++ 10 ∷ []) (n.1 ++ tail) (inr (n.0, refl)), lines-ended n.0 n.3, n.5) refl)
next_line all front rest line tail (inr n) whole =
    ([], rw (whole n.0, append-nil rest, lines-last rest n.1 n.2, n.4) refl)

-- No run of a clean script ends as bad or as too long, from any state that is alike.
pub clean_scripts_run : {M : Type 0} {Alike : M → M → Type 0} {gives : Gives M} {refuses : Refuses M} → TellsApart Alike gives refuses
    → (start start' : M) → Alike start start' → CleanScriptsRun gives refuses start start'
clean_scripts_run tells start start' alike script read rest written outside new all Done e whole clean a = tt
clean_scripts_run tells start start' alike script read rest written outside new all SourceFault e whole clean a = tt
clean_scripts_run tells start start' alike script read rest written outside new all SinkFault e whole clean a = tt
clean_scripts_run tells start start' alike script read rest written outside new all BayFault e whole clean a = tt
clean_scripts_run tells start start' alike script read rest written outside new all Memory e whole clean a = tt
clean_scripts_run tells start start' alike script read rest written outside new all Usage e whole clean a = a
clean_scripts_run tells start start' alike script read rest written outside new all TooLong e whole clean a =
    let p = a.3 in
    let same : script ≡ ((a.0 ++ p.0) ++ p.1 ∷ []) ++ (p.2 ++ rest) =
    rw (e, a.2.split, p.3, append_assoc a.0 (p.0 ++ p.1 ∷ p.2) rest, append_assoc p.0 (p.1 ∷ p.2) rest, append_assoc (a.0 ++ p.0) (p.1 ∷ []) (p.2 ++ rest), append_assoc a.0 p.0 (p.1 ∷ (p.2 ++ rest))) refl in
    p.6 (within_front ((a.0 ++ p.0) ++ p.1 ∷ []) (p.2 ++ rest) (rw same at clean.0))
clean_scripts_run {gives = gives} tells start start' alike script read rest written outside new all (Script line column kind) e whole clean a =
    let front = a.0 in
    let next = next_line all front a.1 a.2 rest a.4 whole in
    let same : lines script ≡ lines front ++ a.2 ∷ next.0 =
    rw (e, a.3.split, append_assoc front a.1 rest, lines-more front (a.1 ++ rest) (whole_of a.3), next.1) refl in
    let Run : List (List ℕ) → Type 0 = λ ls. Runs gives start ls clean.1.0 clean.1.1 clean.1.2 in
    let through = runs_through tells start' start new clean.1.2 (lines front) next.0 a.2 written clean.1.0 outside clean.1.1 alike a.3.runs (subst Run same clean.1.3) in
    tells.apart through.0 new through.1 a.2 through.2 through.3 column kind through.4 through.5 a.5
