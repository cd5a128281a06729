-- Each line whose values are in their ranges is one of the table.
use Rattle.std.proofs.Common.{◌≡◌, ℕ, ◌+◌, ◌^◌, ◌<◌, true, inl, inr, List, [], ◌∷◌, Option, Some, None, refl, arith}
use Rattle.std.specs.Prelude.{IfSome, is_some, ◌||◌}
use Rattle.coda_fid.specs.Name.{is_name}
use Rattle.coda_fid.specs.Path.{path_text, ArePathNames}
use Rattle.coda_text.specs.Printed.{AreBytes}
use Rattle.coda_script.specs.declared.line.Content.TheVariants as contents
use Rattle.coda_script.specs.declared.line.Expansion.{Expansion}
use Rattle.coda_script.specs.declared.line.Expansion.TheVariants.{Alone, Children, Descendants}
use Rattle.coda_script.specs.declared.line.Rule.{Rule}
use Rattle.coda_script.specs.declared.line.Rule.TheVariants.{Longer, Union}
use Rattle.coda_script.specs.declared.line.Strength.{Strength}
use Rattle.coda_script.specs.declared.line.Strength.TheVariants.{Strong, Weak, Down}
use Rattle.coda_script.specs.declared.line.Task.{Task as ATask}
use Rattle.coda_script.specs.declared.line.Task.TheVariants as tasks
use Rattle.coda_script.specs.declared.line.Line.{Line}
use Rattle.coda_script.specs.declared.line.Line.TheVariants as lines
use Rattle.coda_script.specs.declared.line.Line.TheVariants.{Task}
use Rattle.coda_script.specs.Slots.{between, octal}
use Rattle.coda_script.specs.Form.{Form}
use Rattle.coda_script.specs.Table.{place, create_form, mkdir_form, symlink_form, store_form, setattr_form, remove_form, rmdir_form, rename_form, read_form, list_form, drain_form, refresh_form, giveup_form, volume_form, client_form, link_form, tick_form, hoard_add_form, hoard_form, walk_form, send_form, deliver_form, lose_form, breaks_form, crash_form, recover_form, arm_form, resolve_form, repair_form, show_form, trim_form, hardlink_form, acl_form, clone_form, peek_form, unclone_form, asr_form, heal_form, script, setup_forms, actor_forms, last_forms, extra_forms}
use Rattle.coda_script.specs.Ranges.{IsBetween, IsClient, IsVolume, IsServer, IsNumber, IsOwner, IsMode, AreServers, AreTwoServers, TaskInRange, InRange, TaskOfBytes, OfBytes}
use Rattle.coda_script.proofs.Possible.{Holds, Has}

-- ---- numbers that slots hold

pub held : (low high n : ℕ) → high < 2 ^ 64 → IsBetween low high n → Holds (between low high) n
held low high n fits h = (h, omega (arith, fits, h.1))

held_if : (low high : ℕ) (o : Option ℕ) → high < 2 ^ 64 → IfSome o (IsBetween low high) → IfSome o (Holds (between low high))
held_if low high None fits h = tt
held_if low high (Some n) fits h = held low high n fits h

client : (c : ℕ) → IsClient c → Holds (between 1 255) c
client c h = held 1 255 c (omega arith) h

volume : (v : ℕ) → IsVolume v → Holds (between 1 4294967295) v
volume v h = held 1 4294967295 v (omega arith) h

server : (s : ℕ) → IsServer s → Holds (between 1 8) s
server s h = held 1 8 s (omega arith) h

number : (n : ℕ) → IsNumber n → Holds (between 0 18446744073709551615) n
number n h = held 0 18446744073709551615 n (omega arith) h

number_if : (o : Option ℕ) → IfSome o IsNumber → IfSome o (Holds (between 0 18446744073709551615))
number_if o h = held_if 0 18446744073709551615 o (omega arith) h

owner_if : (o : Option ℕ) → IfSome o IsOwner → IfSome o (Holds (between 0 4294967295))
owner_if o h = held_if 0 4294967295 o (omega arith) h

area_if : (o : Option ℕ) → IfSome o (IsBetween 1 64) → IfSome o (Holds (between 1 64))
area_if o h = held_if 1 64 o (omega arith) h

mode_if : (o : Option ℕ) → IfSome o IsMode → IfSome o (Holds octal)
mode_if None h = tt
mode_if (Some n) h = h

-- ---- a client, a volume and a path

placed : (next : ℕ → ℕ → List (List ℕ) → Form) (line : Line) (c v : ℕ) (p : List (List ℕ)) → IsClient c → IsVolume v → ArePathNames p → AreBytes (path_text p) → Has (next c v p) line → Has (place next) line
placed next line c v p ic iv names fits h = (c, client c ic, (v, volume v iv, (p, names, fits, h)))

-- ---- setattr and the lines of two forms

setattr_has : (c v : ℕ) (p : List (List ℕ)) (mode owner mtime : Option ℕ) → IsClient c → IsVolume v → ArePathNames p → AreBytes (path_text p) → IfSome mode IsMode → IfSome owner IsOwner → IfSome mtime IsNumber
    → (is_some mode || (is_some owner || is_some mtime)) ≡ true → Has setattr_form (Task (tasks.Setattr c v p (record { mode = mode; owner = owner; mtime = mtime })))
unfolding setattr_form
setattr_has c v p (Some m) owner mtime ic iv names fits m_in o_in t_in some = (c, client c ic, (v, volume v iv, (p, names, fits, inl (m, m_in, (owner, owner_if owner o_in, (mtime, number_if mtime t_in, refl))))))
setattr_has c v p None (Some o) mtime ic iv names fits m_in o_in t_in some = (c, client c ic, (v, volume v iv, (p, names, fits, inr (inl (o, held 0 4294967295 o (omega arith) o_in, (mtime, number_if mtime t_in, refl))))))
setattr_has c v p None None (Some t) ic iv names fits m_in o_in t_in some = (c, client c ic, (v, volume v iv, (p, names, fits, inr (inr (inl (t, number t t_in, refl))))))
setattr_has c v p None None None ic iv names fits m_in o_in t_in some = absurd cc

link_has : (c s : ℕ) (strength : Strength) → IsClient c → IsServer s → Has link_form (lines.Link c s strength)
unfolding link_form
link_has c s Strong ic is = (c, client c ic, (s, server s is, inl refl))
link_has c s Weak ic is = (c, client c ic, (s, server s is, inr (inl refl)))
link_has c s Down ic is = (c, client c ic, (s, server s is, inr (inr (inl refl))))

hoard_add_has : (c v : ℕ) (p : List (List ℕ)) (n : ℕ) (expansion : Expansion) → IsClient c → IsVolume v → ArePathNames p → AreBytes (path_text p) → IsBetween 1 1000 n → Has hoard_add_form (lines.HoardAdd c v p n expansion)
unfolding hoard_add_form
hoard_add_has c v p n Children ic iv names fits h = (c, client c ic, (v, volume v iv, (p, names, fits, (n, held 1 1000 n (omega arith) h, inl refl))))
hoard_add_has c v p n Descendants ic iv names fits h = (c, client c ic, (v, volume v iv, (p, names, fits, (n, held 1 1000 n (omega arith) h, inr (inl refl)))))
hoard_add_has c v p n Alone ic iv names fits h = (c, client c ic, (v, volume v iv, (p, names, fits, (n, held 1 1000 n (omega arith) h, inr (inr refl)))))

volume_has : (v : ℕ) (ss : List ℕ) (area : Option ℕ) → IsVolume v → AreServers ss → IfSome area (IsBetween 1 64) → Has volume_form (lines.Volume v ss area)
unfolding volume_form
volume_has v [] area iv h a = absurd h
volume_has v (s ∷ ss) area iv h a = (v, volume v iv, inl (s, server s h.0, (ss, h.1, (area, area_if area a, refl))))

resolve_has : (v : ℕ) (ss : List ℕ) → IsVolume v → AreTwoServers ss → Has resolve_form (lines.Resolve v ss)
unfolding resolve_form
resolve_has v [] iv h = absurd h
resolve_has v (s ∷ []) iv h = absurd h
resolve_has v (s ∷ t ∷ ss) iv h = (v, volume v iv, (s, server s h.0, (t, held (s + 1) 8 t (omega arith) h.1, (ss, h.2, refl))))

-- ---- any line

in_setup : (line : Line) → Has setup_forms line → Has script line
unfolding script
in_setup line h = inr (inr (inr (inr (inr (inr (inr (inr (inr h))))))))

in_actors : (line : Line) → Has actor_forms line → Has script line
unfolding setup_forms
in_actors line h = in_setup line (inr (inr (inr (inr (inr (inr (inr (inr h))))))))

in_last : (line : Line) → Has last_forms line → Has script line
unfolding actor_forms
in_last line h = in_actors line (inr (inr (inr (inr (inr (inr (inr (inr (inr h)))))))))

in_extra : (line : Line) → Has extra_forms line → Has script line
unfolding last_forms
in_extra line h = in_last line (inr (inr (inr h)))

asr_has : (v : ℕ) (n : List ℕ) (rule : Rule) → IsVolume v → is_name n ≡ true → AreBytes n → Has asr_form (lines.Asr v n rule)
unfolding asr_form
asr_has v n Longer iv good fits = (v, volume v iv, (n, good, fits, inl refl))
asr_has v n Union iv good fits = (v, volume v iv, (n, good, fits, inr (inl refl)))

-- what a client does
pub task_has : (task : ATask) → TaskInRange task → TaskOfBytes task → Has script (Task task)
unfolding script setup_forms extra_forms hardlink_form create_form mkdir_form symlink_form store_form setattr_form remove_form rmdir_form rename_form read_form list_form drain_form refresh_form giveup_form
task_has (tasks.Create c v p mode owner) h b = inl (c, client c h.0, (v, volume v h.1, (p, h.2, b, (mode, mode_if mode h.3, (owner, owner_if owner h.4, refl)))))
task_has (tasks.Mkdir c v p mode owner) h b = inr (inl (c, client c h.0, (v, volume v h.1, (p, h.2, b, (mode, mode_if mode h.3, (owner, owner_if owner h.4, refl))))))
task_has (tasks.Symlink c v p target) h b = inr (inr (inl (c, client c h.0, (v, volume v h.1, (p, h.2, b.0, (target, h.3, b.1, refl))))))
task_has (tasks.Store c v p (contents.Text t)) h b = inr (inr (inr (inl (c, client c h.0, (v, volume v h.1, (p, h.2, b.0, inl (t, tt, b.1, refl)))))))
task_has (tasks.Store c v p (contents.Fill n byte)) h b = inr (inr (inr (inl (c, client c h.0, (v, volume v h.1, (p, h.2, b.0, inr (inl (n, held 0 2000000 n (omega arith) h.3.0, (byte, held 0 255 byte (omega arith) h.3.1, refl)))))))))
task_has (tasks.Setattr c v p attrs) h b = inr (inr (inr (inr (inl (setattr_has c v p attrs.mode attrs.owner attrs.mtime h.0 h.1 h.2 b h.3 h.4 h.5 h.6)))))
task_has (tasks.Remove c v p) h b = inr (inr (inr (inr (inr (inl (c, client c h.0, (v, volume v h.1, (p, h.2, b, refl))))))))
task_has (tasks.Rmdir c v p) h b = inr (inr (inr (inr (inr (inr (inl (c, client c h.0, (v, volume v h.1, (p, h.2, b, refl)))))))))
task_has (tasks.Rename c v p q) h b = inr (inr (inr (inr (inr (inr (inr (inl (c, client c h.0, (v, volume v h.1, (p, h.2, b.0, (q, h.3, b.1, refl)))))))))))
task_has (tasks.Hardlink c v p q) h b = in_extra (Task (tasks.Hardlink c v p q)) (inr (inl (c, client c h.0, (v, volume v h.1, (p, h.2, b.0, (q, h.3, b.1, refl))))))
task_has (tasks.Read c v p) h b = inr (inr (inr (inr (inr (inr (inr (inr (inl (c, client c h.0, (v, volume v h.1, (p, h.2, b, refl)))))))))))
task_has (tasks.List c v p) h b = in_setup (Task (tasks.List c v p)) (inr (inr (inr (inr (inl (c, client c h.0, (v, volume v h.1, (p, h.2, b, refl))))))))
task_has (tasks.Drain c v s window) h b = in_setup (Task (tasks.Drain c v s window)) (inr (inr (inr (inr (inr (inl (c, client c h.0, (v, volume v h.1, (s, server s h.2, (window, number_if window h.3, refl))))))))))
task_has (tasks.Refresh c v s) h b = in_setup (Task (tasks.Refresh c v s)) (inr (inr (inr (inr (inr (inr (inl (c, client c h.0, (v, volume v h.1, (s, server s h.2, refl))))))))))
task_has (tasks.Giveup c v) h b = in_setup (Task (tasks.Giveup c v)) (inr (inr (inr (inr (inr (inr (inr (inl (c, client c h.0, (v, volume v h.1, refl))))))))))

-- a line that may be no thread's
abbrev pub IsPlain : Line → Type 0
IsPlain (lines.At thread task) = ⊥
IsPlain line = Unit {0}

-- a line in its ranges is one of the table, or one of a thread
pub line_has : (line : Line) → IsPlain line → InRange line → OfBytes line → Has script line
unfolding script setup_forms actor_forms last_forms extra_forms trim_form acl_form clone_form peek_form unclone_form heal_form volume_form client_form link_form tick_form hoard_form walk_form send_form deliver_form lose_form breaks_form crash_form recover_form arm_form resolve_form repair_form show_form
line_has (lines.At thread task) plain h b = absurd plain
line_has (Task task) plain h b = task_has task h b
line_has (lines.Volume v ss area) plain h b = in_setup (lines.Volume v ss area) (inl (volume_has v ss area h.0 h.1 h.2))
line_has (lines.Client c n area) plain h b = in_setup (lines.Client c n area) (inr (inl (c, client c h.0, inl (n, held 1 32768 n (omega arith) h.1, (area, area_if area h.2, refl)))))
line_has (lines.Link c s strength) plain h b = in_setup (lines.Link c s strength) (inr (inr (inl (link_has c s strength h.0 h.1))))
line_has (lines.Tick n) plain h b = in_setup (lines.Tick n) (inr (inr (inr (inl (n, held 0 1000000000 n (omega arith) h, refl)))))
line_has (lines.HoardAdd c v p n expansion) plain h b = in_actors (lines.HoardAdd c v p n expansion) (inl (inl (hoard_add_has c v p n expansion h.0 h.1 h.2 b h.3)))
line_has (lines.HoardRemove c v p) plain h b = in_actors (lines.HoardRemove c v p) (inl (inr (inl (c, client c h.0, (v, volume v h.1, (p, h.2, b, refl))))))
line_has (lines.HoardClear c) plain h b = in_actors (lines.HoardClear c) (inl (inr (inr (inl (c, client c h, refl)))))
line_has (lines.HoardList c) plain h b = in_actors (lines.HoardList c) (inl (inr (inr (inr (inl (c, client c h, refl))))))
line_has (lines.Walk c v) plain h b = in_actors (lines.Walk c v) (inr (inl (c, client c h.0, (v, volume v h.1, refl))))
line_has (lines.Send c v s window) plain h b = in_actors (lines.Send c v s window) (inr (inr (inl (c, client c h.0, (v, volume v h.1, (s, server s h.2, (window, number_if window h.3, refl)))))))
line_has (lines.Deliver m) plain h b = in_actors (lines.Deliver m) (inr (inr (inr (inl (m, number m h, refl)))))
line_has (lines.Lose m) plain h b = in_actors (lines.Lose m) (inr (inr (inr (inr (inl (m, number m h, refl))))))
line_has (lines.Breaks s v) plain h b = in_actors (lines.Breaks s v) (inr (inr (inr (inr (inr (inl (s, server s h.0, (v, volume v h.1, refl))))))))
line_has (lines.CrashClient c n) plain h b = in_actors (lines.CrashClient c n) (inr (inr (inr (inr (inr (inr (inl (inl (c, client c h.0, (n, number n h.1, refl))))))))))
line_has (lines.CrashReplica s v n) plain h b = in_actors (lines.CrashReplica s v n) (inr (inr (inr (inr (inr (inr (inl (inr (inl (s, server s h.0, (v, volume v h.1, (n, number n h.2, refl))))))))))))
line_has (lines.RecoverClient c) plain h b = in_actors (lines.RecoverClient c) (inr (inr (inr (inr (inr (inr (inr (inl (inl (c, client c h, refl))))))))))
line_has (lines.RecoverReplica s v) plain h b = in_actors (lines.RecoverReplica s v) (inr (inr (inr (inr (inr (inr (inr (inl (inr (inl (s, server s h.0, (v, volume v h.1, refl))))))))))))
line_has (lines.ArmClient c k) plain h b = in_actors (lines.ArmClient c k) (inr (inr (inr (inr (inr (inr (inr (inr (inl (inl (c, client c h.0, (k, number k h.1, refl))))))))))))
line_has (lines.ArmReplica s v k) plain h b = in_actors (lines.ArmReplica s v k) (inr (inr (inr (inr (inr (inr (inr (inr (inl (inr (inl (s, server s h.0, (v, volume v h.1, (k, number k h.2, refl))))))))))))))
line_has (lines.Resolve v ss) plain h b = in_last (lines.Resolve v ss) (inl (resolve_has v ss h.0 h.1))
line_has (lines.Repair v s p) plain h b = in_last (lines.Repair v s p) (inr (inl (v, volume v h.0, (s, server s h.1, (p, h.2, b, refl)))))
line_has (lines.ShowVolume s v) plain h b = in_last (lines.ShowVolume s v) (inr (inr (inl (inl (s, server s h.0, (v, volume v h.1, refl))))))
line_has (lines.ShowLog c v) plain h b = in_last (lines.ShowLog c v) (inr (inr (inl (inr (inl (c, client c h.0, (v, volume v h.1, refl)))))))
line_has (lines.ShowState c v) plain h b = in_last (lines.ShowState c v) (inr (inr (inl (inr (inr (inl (c, client c h.0, (v, volume v h.1, refl))))))))
line_has (lines.Trim m n) plain h b = in_extra (lines.Trim m n) (inl (m, number m h.0, (n, number n h.1, refl)))
line_has (lines.Acl s v p n plus minus) plain h b = in_extra (lines.Acl s v p n plus minus) (inr (inr (inl (s, server s h.0, (v, volume v h.1, (p, h.2, b, (n, held 0 255 n (omega arith) h.3, (plus, (minus, refl)))))))))
line_has (lines.Clone s v) plain h b = in_extra (lines.Clone s v) (inr (inr (inr (inl (s, server s h.0, (v, volume v h.1, refl))))))
line_has (lines.Peek s v n p) plain h b = in_extra (lines.Peek s v n p) (inr (inr (inr (inr (inl (s, server s h.0, (v, volume v h.1, (n, number n h.2, (p, h.3, b, refl)))))))))
line_has (lines.Unclone s v n) plain h b = in_extra (lines.Unclone s v n) (inr (inr (inr (inr (inr (inl (s, server s h.0, (v, volume v h.1, (n, number n h.2, refl)))))))))
line_has (lines.Asr v n rule) plain h b = in_extra (lines.Asr v n rule) (inr (inr (inr (inr (inr (inr (inl (asr_has v n rule h.0 h.1 b))))))))
line_has (lines.Heal v p) plain h b = in_extra (lines.Heal v p) (inr (inr (inr (inr (inr (inr (inr (inl (v, volume v h.0, (p, h.1, b, refl))))))))))
