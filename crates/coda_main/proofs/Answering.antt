-- What a line that ran says of the cells that are shown.
use Rattle.std.proofs.Common.{◌≡◌, ℕ, List, [], ◌∷◌, ◌++◌, Ok, Some, refl, sym, ap, ◌∙◌, subst, inr, true}
use Rattle.std.specs.Prelude.{drop, length}
use Rattle.coda_disk.specs.Told.{Told}
use Rattle.coda_script.specs.declared.line.Line.{Line}
use Rattle.coda_script.specs.declared.reply.Reply.{Reply}
use Rattle.coda_script.specs.Lines.{line_of}
use Rattle.coda_shelves.specs.Cells.{Cell, state_of}
use Rattle.coda_shelves.specs.Lines.{is_built, Happens}
use Rattle.coda_site.specs.Shelves.{Shows, Leads}
use Rattle.coda_site.specs.Totals.{Counts, IsCounted, IsFault, has_armed}
use Rattle.coda_runs.specs.Shown.{CanShow}
use Rattle.coda_runs.specs.Texts.{text_of}
use Rattle.coda_runs.proofs.ShownUp.{shows_what_is_up}
use Rattle.coda_main.specs.Reported.{Answered, LineRan}
use Rattle.coda_main.specs.Shows.{Moment, answered_since}
use Rattle.coda_main.specs.Tallies.{IsText}

-- behind a list stands what was put there
behind : {A : Type 0} (xs ys : List A) → drop (length xs) (xs ++ ys) ≡ ys
behind [] ys = refl
behind (x ∷ xs) ys = behind xs ys

-- A line was carried out with this reply, and this is its text in each cell that is shown then.
pub line_answered : {D : Type 0} (told : D → Told) (old new : Moment D) (said : Line) (reply : Reply) (text : List ℕ)
    → ((plain : Cell) → Shows told old.out old.has plain old.site → Leads told new.out new.has (Happens plain said) reply old.answered new.answered new.site)
    → ((plain : Cell) → Shows told new.out new.has plain new.site → CanShow plain reply → text ≡ text_of (state_of plain) reply)
    → (plain : Cell) → Shows told old.out old.has plain old.site → Answered told plain said reply text old new
line_answered told old new said reply text does printed plain shows =
    let led = does plain shows in
    let same : answered_since old new ≡ led.outside = ap (λ images. drop (length old.answered) images) led.answered ∙ behind old.answered led.outside in
    record {
      next = led.left;
      happens = subst (λ outside. Happens plain said reply outside led.left) (sym same) led.happens;
      printed = printed led.left led.shows (shows_what_is_up plain led.left said reply led.outside led.happens);
      answered = led.answered ∙ ap (λ outside. old.answered ++ outside) (sym same);
      shows = led.shows;
    }

-- what a line that is built counts and tells
pub line_ran : {D : Type 0} (told : D → Told) (old new : Moment D) (old_counts new_counts : Counts) (bytes text : List ℕ) (said : Line) (reply : Reply) → line_of bytes ≡ Ok (Some said) → is_built said ≡ true → IsText reply text
    → IsCounted (IsFault (Ok reply)) (has_armed said (Ok reply)) old_counts new_counts → ((plain : Cell) → Shows told old.out old.has plain old.site → Answered told plain said reply text old new)
    → LineRan told old old_counts bytes text (answered_since old new) new new_counts
line_ran told old new old_counts new_counts bytes text said reply spelled built printed counted answers = inr (
  record { said = said; reply = reply; spelled = spelled; built = built; printed = printed },
  counted,
  λ plain images shows. (let a = answers plain shows.0 in record {
    next = a.next;
    replies = record { said = said; reply = reply; spelled = spelled; built = built; happens = a.happens; printed = a.printed };
    said = refl;
    reply = refl;
    shows = (a.shows, a.answered ∙ ap (λ o. o ++ answered_since old new) shows.1);
  }),
)
