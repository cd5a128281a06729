-- The grammar: every form of a line, in one table. Columns of reading and spellings follow from it.
use Rattle.std.specs.Prelude.{codes, ℕ, ◌+◌, true, false, if◌then◌else◌, List, ◌∷◌, Option, Some, None, is_some}
use Rattle.coda_engine.specs.declared.status.Kind.TheVariants.{Word, Count}
use Rattle.coda_script.specs.declared.line.Line.{Line}
use Rattle.coda_script.specs.declared.line.Line.TheVariants as lines
use Rattle.coda_script.specs.declared.line.Line.TheVariants.{Task}
use Rattle.coda_script.specs.declared.line.Task.TheVariants as tasks
use Rattle.coda_script.specs.declared.line.Content.TheVariants as contents
use Rattle.coda_script.specs.declared.line.Strength.TheVariants.{Strong, Weak, Down}
use Rattle.coda_script.specs.declared.line.Expansion.TheVariants.{Alone, Children, Descendants}
use Rattle.coda_script.specs.declared.line.Rule.TheVariants.{Longer, Union}
use Rattle.coda_script.specs.Slots.{between, octal, any, sized}
use Rattle.coda_script.specs.Form.{Form, ends, nothing, either, a_number, a_path, a_name, some_rights, a_text, perhaps, servers_above}

-- ---- parts

-- a client: 1 to 255
abbrev pub client : (ℕ → Form) → Form
client = a_number (between 1 255)

-- a volume: 1 to 2^32 - 1
abbrev pub volume : (ℕ → Form) → Form
volume = a_number (between 1 4294967295)

-- a server: 1 to 8
abbrev pub server : (ℕ → Form) → Form
server = a_number (between 1 8)

-- any number
abbrev pub number : (ℕ → Form) → Form
number = a_number (between 0 18446744073709551615)

-- a client, a volume and a path
abbrev pub place : (ℕ → ℕ → List (List ℕ) → Form) → Form
place next = client (λ c. volume (λ v. a_path (λ p. next c v p)))

-- the line ends there and says that
abbrev pub says : Line → Form
says line = ends Count line

-- the line ends there, behind an optional part: a further word is one too many, or stands where the part might
abbrev pub closes : {A : Type 0} → Option A → Line → Form
closes part line = ends (if is_some part then Count else Word) line

-- optional parts
abbrev pub mode : (Option ℕ → Form) → Form
mode = perhaps (codes "mode") octal

abbrev pub owner : (Option ℕ → Form) → Form
owner = perhaps (codes "owner") (between 0 4294967295)

abbrev pub mtime : (Option ℕ → Form) → Form
mtime = perhaps (codes "mtime") (between 0 18446744073709551615)

abbrev pub area : (Option ℕ → Form) → Form
area = perhaps (codes "area") (between 1 64)

abbrev pub window : (Option ℕ → Form) → Form
window = perhaps (codes "window") (between 0 18446744073709551615)

-- ---- what a client does in a volume

-- create C V P, then optionally mode M, owner O
unfoldable pub create_form : Form
create_form = place (λ c v p. mode (λ m. owner (λ o. closes o (Task (tasks.Create c v p m o)))))

-- mkdir C V P, then optionally mode M, owner O
unfoldable pub mkdir_form : Form
mkdir_form = place (λ c v p. mode (λ m. owner (λ o. closes o (Task (tasks.Mkdir c v p m o)))))

-- symlink C V P T: T of 1 to 1,024 bytes
unfoldable pub symlink_form : Form
symlink_form = place (λ c v p. a_text (sized 1 1024) (λ t. says (Task (tasks.Symlink c v p t))))

-- store C V P text T, or fill N B: N at most 2,000,000, B at most 255
unfoldable pub store_form : Form
store_form =
    place (λ c v p.
    either (codes "text") (a_text any (λ t. says (Task (tasks.Store c v p (contents.Text t))))) (
    either (codes "fill") (a_number (between 0 2000000) (λ n. a_number (between 0 255) (λ b. says (Task (tasks.Store c v p (contents.Fill n b))))))
    nothing))

-- setattr C V P, and behind it one or more of mode M, owner O and mtime N, in the order in which they stand here
unfoldable pub setattr_form : Form
setattr_form =
    place (λ c v p.
    either (codes "mode") (a_number octal (λ m. owner (λ o. mtime (λ t.
    closes t (Task (tasks.Setattr c v p (record { mode = Some m; owner = o; mtime = t }))))))) (
    either (codes "owner") (a_number (between 0 4294967295) (λ o. mtime (λ t.
    closes t (Task (tasks.Setattr c v p (record { mode = None; owner = Some o; mtime = t })))))) (
    either (codes "mtime") (number (λ t. says (Task (tasks.Setattr c v p (record { mode = None; owner = None; mtime = Some t })))))
    nothing)))

-- remove C V P
unfoldable pub remove_form : Form
remove_form = place (λ c v p. says (Task (tasks.Remove c v p)))

-- rmdir C V P
unfoldable pub rmdir_form : Form
rmdir_form = place (λ c v p. says (Task (tasks.Rmdir c v p)))

-- rename C V P P
unfoldable pub rename_form : Form
rename_form = place (λ c v p. a_path (λ q. says (Task (tasks.Rename c v p q))))

-- read C V P
unfoldable pub read_form : Form
read_form = place (λ c v p. says (Task (tasks.Read c v p)))

-- list C V P
unfoldable pub list_form : Form
list_form = place (λ c v p. says (Task (tasks.List c v p)))

-- drain C V S, then optionally window W
unfoldable pub drain_form : Form
drain_form = client (λ c. volume (λ v. server (λ s. window (λ w. closes w (Task (tasks.Drain c v s w))))))

-- refresh C V S
unfoldable pub refresh_form : Form
refresh_form = client (λ c. volume (λ v. server (λ s. says (Task (tasks.Refresh c v s)))))

-- giveup C V
unfoldable pub giveup_form : Form
giveup_form = client (λ c. volume (λ v. says (Task (tasks.Giveup c v))))

-- ---- actors, links, the clock

-- volume V on S .., increasing, then optionally area M
unfoldable pub volume_form : Form
volume_form =
    volume (λ v. either (codes "on") (server (λ s. servers_above false s (λ ss. area (λ a. closes a (lines.Volume v (s ∷ ss) a))))) nothing)

-- client C cache N, N of 1 to 32,768, then optionally area M
unfoldable pub client_form : Form
client_form = client (λ c. either (codes "cache") (a_number (between 1 32768) (λ n. area (λ a. closes a (lines.Client c n a)))) nothing)

-- link C S strong, weak or down
unfoldable pub link_form : Form
link_form =
    client (λ c. server (λ s.
    either (codes "strong") (says (lines.Link c s Strong)) (
    either (codes "weak") (says (lines.Link c s Weak)) (
    either (codes "down") (says (lines.Link c s Down))
    nothing))))

-- tick N, at most 10^9
unfoldable pub tick_form : Form
tick_form = a_number (between 0 1000000000) (λ n. says (lines.Tick n))

-- ---- hoarding

-- hoard add C V P PRIO, PRIO of 1 to 1,000, then optionally children or descendants
unfoldable pub hoard_add_form : Form
hoard_add_form =
    place (λ c v p. a_number (between 1 1000) (λ n.
    either (codes "children") (says (lines.HoardAdd c v p n Children)) (
    either (codes "descendants") (says (lines.HoardAdd c v p n Descendants)) (
    ends Word (lines.HoardAdd c v p n Alone)))))

-- hoard add, hoard remove C V P, hoard clear C, hoard list C
unfoldable pub hoard_form : Form
hoard_form =
    either (codes "add") hoard_add_form (
    either (codes "remove") (place (λ c v p. says (lines.HoardRemove c v p))) (
    either (codes "clear") (client (λ c. says (lines.HoardClear c))) (
    either (codes "list") (client (λ c. says (lines.HoardList c)))
    nothing)))

-- walk C V
unfoldable pub walk_form : Form
walk_form = client (λ c. volume (λ v. says (lines.Walk c v)))

-- ---- messages and callbacks

-- send C V S, then optionally window W
unfoldable pub send_form : Form
send_form = client (λ c. volume (λ v. server (λ s. window (λ w. closes w (lines.Send c v s w)))))

-- deliver M
unfoldable pub deliver_form : Form
deliver_form = number (λ m. says (lines.Deliver m))

-- lose M
unfoldable pub lose_form : Form
lose_form = number (λ m. says (lines.Lose m))

-- breaks S V
unfoldable pub breaks_form : Form
breaks_form = server (λ s. volume (λ v. says (lines.Breaks s v)))

-- ---- disks

-- crash client C N, crash replica S V N
unfoldable pub crash_form : Form
crash_form =
    either (codes "client") (client (λ c. number (λ n. says (lines.CrashClient c n)))) (
    either (codes "replica") (server (λ s. volume (λ v. number (λ n. says (lines.CrashReplica s v n)))))
    nothing)

-- recover client C, recover replica S V
unfoldable pub recover_form : Form
recover_form =
    either (codes "client") (client (λ c. says (lines.RecoverClient c))) (
    either (codes "replica") (server (λ s. volume (λ v. says (lines.RecoverReplica s v))))
    nothing)

-- arm client C K, arm replica S V K
unfoldable pub arm_form : Form
arm_form =
    either (codes "client") (client (λ c. number (λ k. says (lines.ArmClient c k)))) (
    either (codes "replica") (server (λ s. volume (λ v. number (λ k. says (lines.ArmReplica s v k)))))
    nothing)

-- ---- replicas, and what is shown

-- resolve V S S .., increasing, two at least
unfoldable pub resolve_form : Form
resolve_form =
    volume (λ v. server (λ s. a_number (between (s + 1) 8) (λ t. servers_above true t (λ us. says (lines.Resolve v (s ∷ t ∷ us))))))

-- repair V S P
unfoldable pub repair_form : Form
repair_form = volume (λ v. server (λ s. a_path (λ p. says (lines.Repair v s p))))

-- show volume S V, show log C V, show state C V
unfoldable pub show_form : Form
show_form =
    either (codes "volume") (server (λ s. volume (λ v. says (lines.ShowVolume s v)))) (
    either (codes "log") (client (λ c. volume (λ v. says (lines.ShowLog c v)))) (
    either (codes "state") (client (λ c. volume (λ v. says (lines.ShowState c v))))
    nothing))

-- ---- messages cut short, hard links, access lists, backups and resolvers of files

-- trim M N
unfoldable pub trim_form : Form
trim_form = number (λ m. number (λ n. says (lines.Trim m n)))

-- hardlink C V P P
unfoldable pub hardlink_form : Form
hardlink_form = place (λ c v p. a_path (λ q. says (Task (tasks.Hardlink c v p q))))

-- acl S V P WHO PLUS MINUS: WHO at most 255
unfoldable pub acl_form : Form
acl_form =
    server (λ s. volume (λ v. a_path (λ p. a_number (between 0 255) (λ n.
    some_rights (λ plus. some_rights (λ minus. says (lines.Acl s v p n plus minus)))))))

-- clone S V
unfoldable pub clone_form : Form
clone_form = server (λ s. volume (λ v. says (lines.Clone s v)))

-- peek S V N P
unfoldable pub peek_form : Form
peek_form = server (λ s. volume (λ v. number (λ n. a_path (λ p. says (lines.Peek s v n p)))))

-- unclone S V N
unfoldable pub unclone_form : Form
unclone_form = server (λ s. volume (λ v. number (λ n. says (lines.Unclone s v n))))

-- asr V SUFFIX longer or union
unfoldable pub asr_form : Form
asr_form =
    volume (λ v. a_name (λ n.
    either (codes "longer") (says (lines.Asr v n Longer)) (
    either (codes "union") (says (lines.Asr v n Union))
    nothing)))

-- heal V P
unfoldable pub heal_form : Form
heal_form = volume (λ v. a_path (λ p. says (lines.Heal v p)))

-- ---- the first words of lines

-- messages cut short, hard links, access lists, backups and resolvers of files
unfoldable pub extra_forms : Form
extra_forms =
    either (codes "trim") trim_form (
    either (codes "hardlink") hardlink_form (
    either (codes "acl") acl_form (
    either (codes "clone") clone_form (
    either (codes "peek") peek_form (
    either (codes "unclone") unclone_form (
    either (codes "asr") asr_form (
    either (codes "heal") heal_form
    nothing)))))))

-- replicas, and what is shown
unfoldable pub last_forms : Form
last_forms =
    either (codes "resolve") resolve_form (
    either (codes "repair") repair_form (
    either (codes "show") show_form
    extra_forms))

-- disks, hoarding, messages and callbacks
unfoldable pub actor_forms : Form
actor_forms =
    either (codes "hoard") hoard_form (
    either (codes "walk") walk_form (
    either (codes "send") send_form (
    either (codes "deliver") deliver_form (
    either (codes "lose") lose_form (
    either (codes "breaks") breaks_form (
    either (codes "crash") crash_form (
    either (codes "recover") recover_form (
    either (codes "arm") arm_form
    last_forms))))))))

-- actors, links, the clock, and what a client does beside its operations
unfoldable pub setup_forms : Form
setup_forms =
    either (codes "volume") volume_form (
    either (codes "client") client_form (
    either (codes "link") link_form (
    either (codes "tick") tick_form (
    either (codes "list") list_form (
    either (codes "drain") drain_form (
    either (codes "refresh") refresh_form (
    either (codes "giveup") giveup_form
    actor_forms)))))))

-- every line but those of threads
unfoldable pub script : Form
script =
    either (codes "create") create_form (
    either (codes "mkdir") mkdir_form (
    either (codes "symlink") symlink_form (
    either (codes "store") store_form (
    either (codes "setattr") setattr_form (
    either (codes "remove") remove_form (
    either (codes "rmdir") rmdir_form (
    either (codes "rename") rename_form (
    either (codes "read") read_form
    setup_forms))))))))
