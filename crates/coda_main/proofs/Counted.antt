-- A text tells whether the reply is one that is counted.
use Rattle.std.proofs.Common.{◌≡◌, ℕ, Bool, true, false, List, [], ◌∷◌, refl, sym, ap, ◌∙◌, inl, inr}
use Rattle.std.specs.Prelude.{◌==◌, ◌&&◌}
use Rattle.std.specs.Fmt.{digits}
use Rattle.std.proofs.lemmas.Bool.{false≢true}
use Rattle.coda_script.specs.declared.refusal.Refusal.{Refusal}
use Rattle.coda_script.specs.declared.refusal.Refusal.TheVariants.{DiskFault}
use Rattle.coda_script.specs.declared.reply.Arg.{Arg}
use Rattle.coda_script.specs.declared.reply.Arg.TheVariants.{Number, Object}
use Rattle.coda_script.specs.declared.reply.ClientState.TheVariants.{Hoarding, Emulating, WriteDisconnected}
use Rattle.coda_script.specs.declared.reply.Reply.{Reply}
use Rattle.coda_script.specs.declared.reply.Reply.TheVariants.{Refused, Accepted, Read, Listed, State, ShowVolume, ShowLog}
use Rattle.coda_report.specs.Texts.{reply_text}
use Rattle.coda_shelves.specs.Lines.{refused_fault}
use Rattle.coda_main.specs.Tallies.{IsText, tells_fault, CountedRepliesAreTold}

-- whether bytes are the same, one after the other
alike : List ℕ → List ℕ → Bool
alike [] [] = true
alike [] (b ∷ right) = false
alike (a ∷ left) [] = false
alike (a ∷ left) (b ∷ right) = (a == b) && alike left right

ok_test : List ℕ → Bool
ok_test text = alike (reply_text Accepted) text

fault_test : List ℕ → Bool
fault_test text = alike (reply_text refused_fault) text

refused_told : (why : Refusal) (args : List Arg) → reply_text (Refused why args) ≡ reply_text refused_fault → Refused why args ≡ refused_fault
unfolding fault_test alike digits
refused_told DiskFault [] e = refl
refused_told DiskFault (Number number ∷ args) e = absurd (false≢true (ap fault_test e))
refused_told DiskFault (Object fid ∷ args) e = absurd (false≢true (ap fault_test e))
refused_told why args e = absurd (false≢true (ap fault_test e))

fault_told : (reply : Reply) (text : List ℕ) → IsText reply text → text ≡ reply_text refused_fault → reply ≡ refused_fault
unfolding fault_test alike digits
fault_told (Refused why args) text is e = refused_told why args (sym is ∙ e)
fault_told (Read true what) text is e = absurd (false≢true (ap fault_test (sym is ∙ e)))
fault_told (Read false what) text is e = absurd (false≢true (ap fault_test (sym is ∙ e)))
fault_told (Listed true entries) text is e = absurd (false≢true (ap fault_test (sym is ∙ e)))
fault_told (Listed false entries) text is e = absurd (false≢true (ap fault_test (sym is ∙ e)))
fault_told (State Hoarding) text is e = absurd (false≢true (ap fault_test (sym is ∙ e)))
fault_told (State Emulating) text is e = absurd (false≢true (ap fault_test (sym is ∙ e)))
fault_told (State WriteDisconnected) text is e = absurd (false≢true (ap fault_test (sym is ∙ e)))
fault_told (ShowVolume server volume) text (inl is) e = absurd (false≢true (ap fault_test (sym is ∙ e)))
fault_told (ShowVolume server volume) text (inr is) e = absurd (false≢true (ap fault_test (sym is.1 ∙ e)))
fault_told (ShowLog client volume) text is e = absurd (false≢true (ap fault_test (sym is.1 ∙ e)))
fault_told reply text is e = absurd (false≢true (ap fault_test (sym is ∙ e)))

ok_told : (reply : Reply) (text : List ℕ) → IsText reply text → text ≡ reply_text Accepted → reply ≡ Accepted
unfolding ok_test alike
ok_told Accepted text is e = refl
ok_told (Read true what) text is e = absurd (false≢true (ap ok_test (sym is ∙ e)))
ok_told (Read false what) text is e = absurd (false≢true (ap ok_test (sym is ∙ e)))
ok_told (Listed true entries) text is e = absurd (false≢true (ap ok_test (sym is ∙ e)))
ok_told (Listed false entries) text is e = absurd (false≢true (ap ok_test (sym is ∙ e)))
ok_told (State Hoarding) text is e = absurd (false≢true (ap ok_test (sym is ∙ e)))
ok_told (State Emulating) text is e = absurd (false≢true (ap ok_test (sym is ∙ e)))
ok_told (State WriteDisconnected) text is e = absurd (false≢true (ap ok_test (sym is ∙ e)))
ok_told (ShowVolume server volume) text (inl is) e = absurd (false≢true (ap ok_test (sym is ∙ e)))
ok_told (ShowVolume server volume) text (inr is) e = absurd (false≢true (ap ok_test (sym is.1 ∙ e)))
ok_told (ShowLog client volume) text is e = absurd (false≢true (ap ok_test (sym is.1 ∙ e)))
ok_told reply text is e = absurd (false≢true (ap ok_test (sym is ∙ e)))

pub counted_replies_are_told : CountedRepliesAreTold
counted_replies_are_told reply text is = ((λ e. let told = fault_told reply text is e in (told, ap tells_fault told)), ok_told reply text is)
