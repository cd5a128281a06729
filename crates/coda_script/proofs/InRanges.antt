-- What is spelled is in its ranges.
use Rattle.std.proofs.Common.{◌≡◌, ℕ, ◌+◌, ◌≤◌, Bool, true, false, leb, inl, inr, List, [], ◌∷◌, length, Option, Some, None, refl, sym, subst, arith}
use Rattle.std.specs.Prelude.{◌-◌, ◌*◌, ◌&&◌, if◌then◌else◌, IfSome, option_and_then}
use Rattle.std.specs.Option.{option_map_or}
use Rattle.std.proofs.lemmas.Bool.{leb-true, and_parts}
use Rattle.coda_fid.specs.Name.{is_name}
use Rattle.coda_fid.specs.Path.{is_path, names_in, ArePathNames}
use Rattle.coda_fid.proofs.Paths.{path_names_in}
use Rattle.coda_text.specs.Numbers.{number_of, with_octal, octal_from}
use Rattle.coda_text.specs.Texts.{value_of, is_quoted}
use Rattle.coda_script.specs.declared.line.Line.{Line}
use Rattle.coda_script.specs.declared.line.Rights.{Rights}
use Rattle.coda_script.specs.declared.line.Line.TheVariants.{Task}
use Rattle.coda_script.specs.Slots.{NumberSlot, between, octal, TextSlot, any, sized, within, number_in, path_in, name_in, text_in, has_room}
use Rattle.coda_script.specs.Form.{Form, ends, nothing, either, a_number, a_path, a_name, some_rights, a_text, perhaps, servers_above}
use Rattle.coda_script.specs.Table.{create_form, mkdir_form, symlink_form, store_form, setattr_form, remove_form, rmdir_form, rename_form, read_form, list_form, drain_form, refresh_form, giveup_form, volume_form, client_form, link_form, tick_form, hoard_add_form, hoard_form, walk_form, send_form, deliver_form, lose_form, breaks_form, crash_form, recover_form, arm_form, resolve_form, repair_form, show_form, trim_form, hardlink_form, acl_form, clone_form, peek_form, unclone_form, asr_form, heal_form, script, setup_forms, actor_forms, last_forms, extra_forms}
use Rattle.coda_script.specs.Spelling.{SpellServers, Spells, SpellsLine}
use Rattle.coda_script.specs.Ranges.{IsBetween, AreServersAbove, InRange}
use Rattle.coda_script.proofs.Possible.{HasRoom}
use Rattle.coda_script.proofs.Binding.{some_is}

-- ---- slots

-- a number in the range of a slot
abbrev InSlot : NumberSlot → ℕ → Type 0
InSlot (between low high) n = IsBetween low high n
InSlot octal n = n ≤ 4095

-- each line of a form meets a condition, where its values are in the ranges of the slots
abbrev Lets : (Line → Type 0) → Form → Type 0
Lets P (ends kind said) = P said
Lets P nothing = Unit {0}
Lets P (either word so other) = Lets P so × Lets P other
Lets P (a_number slot next) = (n : ℕ) → InSlot slot n → Lets P (next n)
Lets P (a_path next) = (p : List (List ℕ)) → ArePathNames p → Lets P (next p)
Lets P (a_name next) = (n : List ℕ) → is_name n ≡ true → Lets P (next n)
Lets P (some_rights next) = (r : Rights) → Lets P (next r)
Lets P (a_text slot next) = (t : List ℕ) → HasRoom slot (length t) → Lets P (next t)
Lets P (perhaps word slot next) = (o : Option ℕ) → IfSome o (InSlot slot) → Lets P (next o)
Lets P (servers_above all last next) = (ss : List ℕ) → AreServersAbove last ss → Lets P (next ss)

pub if_some : {A : Type 0} (b : Bool) (x y : A) → (if b then (let r : Option A = Some x in r) else None) ≡ Some y → (b ≡ true) × (x ≡ y)
if_some true x y e = (refl, cc)
if_some false x y e = absurd cc

pub if_then : {A : Type 0} (b : Bool) (o : Option A) (y : A) → (if b then o else None) ≡ Some y → o ≡ Some y
if_then true o y e = e
if_then false o y e = absurd cc

pub and_then : {A B : Type 0} (o : Option A) (f : A → Option B) (y : B) → option_and_then f o ≡ Some y → (x : A) × (o ≡ Some x) × (f x ≡ Some y)
and_then (Some x) f y e = (x, refl, e)
and_then None f y e = absurd cc

pub within_is : (low high m n : ℕ) → within low high m ≡ Some n → IsBetween low high n
within_is low high m n e =
    let i = if_some (leb low m && leb m high) m n e in
    let p = and_parts (leb low m) (leb m high) i.0 in
    subst (IsBetween low high) i.1 (leb-true low m p.0, leb-true m high p.1)

octal_small : (ds : List ℕ) (m n : ℕ) → m ≤ 4095 → octal_from m ds ≡ Some n → n ≤ 4095
unfolding octal_from
octal_small [] m n le e = subst (λ k. k ≤ 4095) (some_is m n e) le
octal_small (d ∷ ds) m n le e =
    let o = mapped (with_octal m d) (λ k. octal_from k ds) n e in
    octal_small ds o.0 n (step m d o.0 o.1) o.2
  where
    mapped : (o : Option ℕ) (f : ℕ → Option ℕ) (y : ℕ) → option_map_or f o None ≡ Some y → (x : ℕ) × (o ≡ Some x) × (f x ≡ Some y)
    mapped (Some x) f y e = (x, refl, e)
    mapped None f y e = absurd cc

    step : (m d k : ℕ) → with_octal m d ≡ Some k → k ≤ 4095
    step m d k e =
        let i = if_some (leb 48 d && leb d 55 && leb (m * 8 + (d - 48)) 4095) (m * 8 + (d - 48)) k e in
        subst (λ k. k ≤ 4095) i.1 (leb-true (m * 8 + (d - 48)) 4095 (and_parts (leb 48 d && leb d 55) (leb (m * 8 + (d - 48)) 4095) i.0).1)

pub number_is : (slot : NumberSlot) (w : List ℕ) (n : ℕ) → number_in slot w ≡ Some n → InSlot slot n
number_is (between low high) w n e = let o = and_then (number_of w) (within low high) n e in within_is low high o.0 n o.2
number_is octal w n e = octal_small w 0 n (omega arith) (if_then (leb 1 (length w) && leb (length w) 5) (octal_from 0 w) n e)

pub path_is : (w : List ℕ) (p : List (List ℕ)) → path_in w ≡ Some p → ArePathNames p
path_is w p e =
    let i = if_some (is_path (value_of w)) (names_in (value_of w)) p e in
    subst ArePathNames i.1 (path_names_in (value_of w) i.0)

name_is : (w n : List ℕ) → name_in w ≡ Some n → is_name n ≡ true
name_is w n e =
    let i = if_some (is_name (value_of w)) (value_of w) n e in
    subst (λ (x : List ℕ). is_name x ≡ true) i.1 i.0

room_is : (slot : TextSlot) (n : ℕ) → has_room slot n ≡ true → HasRoom slot n
room_is any n e = tt
room_is (sized low high) n e = let p = and_parts (leb low n) (leb n high) e in (leb-true low n p.0, leb-true n high p.1)

text_is : (slot : TextSlot) (w t : List ℕ) → text_in slot w ≡ Some t → HasRoom slot (length t)
text_is slot w t e =
    let i = if_some (is_quoted w && has_room slot (length (value_of w))) (value_of w) t e in
    subst (λ (x : List ℕ). HasRoom slot (length x)) i.1 (room_is slot (length (value_of w)) (and_parts (is_quoted w) (has_room slot (length (value_of w))) i.0).1)

servers_are : (all : Bool) (last : ℕ) (ws : List (List ℕ)) (ss : List ℕ) → SpellServers all last ws ss → AreServersAbove last ss
servers_are all last [] [] s = tt
servers_are all last (w ∷ ws) (x ∷ ss) s = (number_is (between (last + 1) 8) w x s.1, servers_are all x ws ss s.2)
servers_are all last [] (x ∷ ss) s = absurd s
servers_are all last (w ∷ ws) [] s = absurd s

-- ---- any form

meets : (P : Line → Type 0) (f : Form) (ws : List (List ℕ)) (line : Line) → Lets P f → Spells f ws line → P line
meets P (ends kind said) ws line l s = subst P (sym s.1) l
meets P nothing ws line l s = absurd s
meets P (either word so other) ws line l (inl s) = meets P so s.0 line l.0 s.2
meets P (either word so other) ws line l (inr s) = meets P other ws line l.1 s.1
meets P (a_number slot next) ws line l s = meets P (next s.3) s.1 line (l s.3 (number_is slot s.0 s.3 s.4)) s.5
meets P (a_path next) ws line l s = meets P (next s.3) s.1 line (l s.3 (path_is s.0 s.3 s.4)) s.5
meets P (a_name next) ws line l s = meets P (next s.3) s.1 line (l s.3 (name_is s.0 s.3 s.4)) s.5
meets P (some_rights next) ws line l s = meets P (next s.3) s.1 line (l s.3) s.5
meets P (a_text slot next) ws line l s = meets P (next s.3) s.1 line (l s.3 (text_is slot s.0 s.3 s.4)) s.5
meets P (perhaps word slot next) ws line l (inl s) = meets P (next (Some s.3)) s.1 line (l (Some s.3) (number_is slot s.0 s.3 s.4)) s.5
meets P (perhaps word slot next) ws line l (inr s) = meets P (next None) ws line (l None tt) s.1
meets P (servers_above all last next) ws line l s = meets P (next s.3) s.1 line (l s.3 (servers_are all last s.0 s.3 s.4)) s.6

-- ---- the table

create_lets : Lets InRange create_form
unfolding create_form
create_lets = λ c ic v iv p ip m im o io. (ic, iv, ip, im, io)

mkdir_lets : Lets InRange mkdir_form
unfolding mkdir_form
mkdir_lets = λ c ic v iv p ip m im o io. (ic, iv, ip, im, io)

symlink_lets : Lets InRange symlink_form
unfolding symlink_form
symlink_lets = λ c ic v iv p ip t it. (ic, iv, ip, it)

store_lets : Lets InRange store_form
unfolding store_form
store_lets = λ c ic v iv p ip. (λ t it. (ic, iv, ip, tt), (λ n hn b hb. (ic, iv, ip, (hn, hb)), tt))

setattr_lets : Lets InRange setattr_form
unfolding setattr_form
setattr_lets = λ c ic v iv p ip. (λ m im o io t it. (ic, iv, ip, im, io, it, refl), (λ o io t it. (ic, iv, ip, tt, io, it, refl), (λ t it. (ic, iv, ip, tt, tt, it, refl), tt)))

place_lets : Lets InRange remove_form × Lets InRange rmdir_form × Lets InRange read_form × Lets InRange list_form
unfolding remove_form rmdir_form read_form list_form
place_lets = (λ c ic v iv p ip. (ic, iv, ip), λ c ic v iv p ip. (ic, iv, ip), λ c ic v iv p ip. (ic, iv, ip), λ c ic v iv p ip. (ic, iv, ip))

rename_lets : Lets InRange rename_form × Lets InRange hardlink_form
unfolding rename_form hardlink_form
rename_lets = (λ c ic v iv p ip q iq. (ic, iv, ip, iq), λ c ic v iv p ip q iq. (ic, iv, ip, iq))

drain_lets : Lets InRange drain_form × Lets InRange send_form
unfolding drain_form send_form
drain_lets = (λ c ic v iv s is w iw. (ic, iv, is, iw), λ c ic v iv s is w iw. (ic, iv, is, iw))

refresh_lets : Lets InRange refresh_form × Lets InRange giveup_form × Lets InRange walk_form × Lets InRange breaks_form
unfolding refresh_form giveup_form walk_form breaks_form
refresh_lets = (λ c ic v iv s is. (ic, iv, is), λ c ic v iv. (ic, iv), λ c ic v iv. (ic, iv), λ s is v iv. (is, iv))

volume_lets : Lets InRange volume_form
unfolding volume_form
volume_lets = λ v iv. (λ s is ss hs a ia. (iv, (is, hs), ia), tt)

client_lets : Lets InRange client_form
unfolding client_form
client_lets = λ c ic. (λ n hn a ia. (ic, hn, ia), tt)

link_lets : Lets InRange link_form
unfolding link_form
link_lets = λ c ic s is. ((ic, is), ((ic, is), ((ic, is), tt)))

number_lets : Lets InRange tick_form × Lets InRange deliver_form × Lets InRange lose_form
unfolding tick_form deliver_form lose_form
number_lets = (λ n hn. hn, λ m im. im, λ m im. im)

hoard_lets : Lets InRange hoard_form
unfolding hoard_form hoard_add_form
hoard_lets = (λ c ic v iv p ip n hn. ((ic, iv, ip, hn), ((ic, iv, ip, hn), (ic, iv, ip, hn))), (λ c ic v iv p ip. (ic, iv, ip), (λ c ic. ic, (λ c ic. ic, tt))))

disk_lets : Lets InRange crash_form × Lets InRange recover_form × Lets InRange arm_form
unfolding crash_form recover_form arm_form
disk_lets = (
  (λ c ic n hn. (ic, hn), (λ s is v iv n hn. (is, iv, hn), tt)),
  (λ c ic. ic, (λ s is v iv. (is, iv), tt)),
  (λ c ic n hn. (ic, hn), (λ s is v iv n hn. (is, iv, hn), tt)),
)

clone_lets : Lets InRange clone_form × Lets InRange peek_form × Lets InRange unclone_form
unfolding clone_form peek_form unclone_form
clone_lets = (λ s is v iv. (is, iv), λ s is v iv n hn p ip. (is, iv, hn, ip), λ s is v iv n hn. (is, iv, hn))

extra_lets : Lets InRange extra_forms
unfolding extra_forms trim_form acl_form asr_form heal_form
extra_lets = (
  λ m im n hn. (im, hn),
  (
    rename_lets.1,
    (
      λ s is v iv p ip n hn plus minus. (is, iv, ip, hn),
      (clone_lets.0, (clone_lets.1, (clone_lets.2, (λ v iv n good. ((iv, good), ((iv, good), tt)), (λ v iv p ip. (iv, ip), tt))))),
    ),
  ),
)

last_lets : Lets InRange last_forms
unfolding last_forms resolve_form repair_form show_form
last_lets = (
  λ v iv s is t it us hu. (iv, (is, it, hu)),
  (
    λ v iv s is p ip. (iv, is, ip),
    ((λ s is v iv. (is, iv), (λ c ic v iv. (ic, iv), (λ c ic v iv. (ic, iv), tt))), extra_lets),
  ),
)

actor_lets : Lets InRange actor_forms
unfolding actor_forms
actor_lets =
    (hoard_lets, (refresh_lets.2, (drain_lets.1, (number_lets.1, (number_lets.2, (refresh_lets.3, (disk_lets.0, (disk_lets.1, (disk_lets.2, last_lets)))))))))

setup_lets : Lets InRange setup_forms
unfolding setup_forms
setup_lets = (volume_lets, (client_lets, (link_lets, (number_lets.0, (place_lets.3, (drain_lets.0, (refresh_lets.0, (refresh_lets.1, actor_lets))))))))

script_lets : Lets InRange script
unfolding script
script_lets =
    (create_lets, (mkdir_lets, (symlink_lets, (store_lets, (setattr_lets, (place_lets.0, (place_lets.1, (rename_lets.0, (place_lets.2, setup_lets)))))))))

-- what some words spell is in its ranges
pub spelled_in_range : (ws : List (List ℕ)) (line : Line) → SpellsLine ws line → InRange line
spelled_in_range ws line (inl s) = meets InRange script ws line script_lets s
spelled_in_range ws line (inr s) =
    let t = number_is (between 1 8) s.turn s.thread s.number in
    subst InRange (sym s.says) (t, meets InRange script s.rest (Task s.task) script_lets s.spelled)
