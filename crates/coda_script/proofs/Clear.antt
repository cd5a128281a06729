-- The words of the table are words, and none may be taken for another.
use Rattle.std.proofs.Common.{refl}
use Rattle.coda_script.specs.Table.{create_form, mkdir_form, symlink_form, store_form, setattr_form, remove_form, rmdir_form, rename_form, read_form, list_form, drain_form, refresh_form, giveup_form, volume_form, client_form, link_form, tick_form, hoard_add_form, hoard_form, walk_form, send_form, deliver_form, lose_form, breaks_form, crash_form, recover_form, arm_form, resolve_form, repair_form, show_form, trim_form, hardlink_form, acl_form, clone_form, peek_form, unclone_form, asr_form, heal_form, script, setup_forms, actor_forms, last_forms, extra_forms}
use Rattle.coda_script.proofs.Possible.{IsClear}

create_clear : IsClear create_form
unfolding create_form
create_clear = λ c v p. (refl, refl, λ m. (refl, refl, λ o. tt))

mkdir_clear : IsClear mkdir_form
unfolding mkdir_form
mkdir_clear = λ c v p. (refl, refl, λ m. (refl, refl, λ o. tt))

symlink_clear : IsClear symlink_form
unfolding symlink_form
symlink_clear = λ c v p t. tt

store_clear : IsClear store_form
unfolding store_form
store_clear = λ c v p. (refl, refl, λ t. tt, (refl, refl, λ n b. tt, tt))

setattr_clear : IsClear setattr_form
unfolding setattr_form
setattr_clear = λ c v p. (refl, refl, λ m. (refl, refl, λ o. (refl, refl, λ t. tt)), (refl, refl, λ o. (refl, refl, λ t. tt), (refl, refl, λ t. tt, tt)))

remove_clear : IsClear remove_form
unfolding remove_form
remove_clear = λ c v p. tt

rmdir_clear : IsClear rmdir_form
unfolding rmdir_form
rmdir_clear = λ c v p. tt

rename_clear : IsClear rename_form
unfolding rename_form
rename_clear = λ c v p q. tt

read_clear : IsClear read_form
unfolding read_form
read_clear = λ c v p. tt

list_clear : IsClear list_form
unfolding list_form
list_clear = λ c v p. tt

drain_clear : IsClear drain_form
unfolding drain_form
drain_clear = λ c v s. (refl, refl, λ w. tt)

refresh_clear : IsClear refresh_form
unfolding refresh_form
refresh_clear = λ c v s. tt

giveup_clear : IsClear giveup_form
unfolding giveup_form
giveup_clear = λ c v. tt

volume_clear : IsClear volume_form
unfolding volume_form
volume_clear = λ v. (refl, refl, λ s ss. (refl, (refl, refl, λ a. tt)), tt)

client_clear : IsClear client_form
unfolding client_form
client_clear = λ c. (refl, refl, λ n. (refl, refl, λ a. tt), tt)

link_clear : IsClear link_form
unfolding link_form
link_clear = λ c s. (refl, refl, tt, (refl, refl, tt, (refl, refl, tt, tt)))

tick_clear : IsClear tick_form
unfolding tick_form
tick_clear = λ n. tt

hoard_add_clear : IsClear hoard_add_form
unfolding hoard_add_form
hoard_add_clear = λ c v p n. (refl, refl, tt, (refl, refl, tt, tt))

hoard_clear : IsClear hoard_form
unfolding hoard_form
hoard_clear = (refl, refl, hoard_add_clear, (refl, refl, λ c v p. tt, (refl, refl, λ c. tt, (refl, refl, λ c. tt, tt))))

walk_clear : IsClear walk_form
unfolding walk_form
walk_clear = λ c v. tt

send_clear : IsClear send_form
unfolding send_form
send_clear = λ c v s. (refl, refl, λ w. tt)

deliver_clear : IsClear deliver_form
unfolding deliver_form
deliver_clear = λ m. tt

lose_clear : IsClear lose_form
unfolding lose_form
lose_clear = λ m. tt

breaks_clear : IsClear breaks_form
unfolding breaks_form
breaks_clear = λ s v. tt

crash_clear : IsClear crash_form
unfolding crash_form
crash_clear = (refl, refl, λ c n. tt, (refl, refl, λ s v n. tt, tt))

recover_clear : IsClear recover_form
unfolding recover_form
recover_clear = (refl, refl, λ c. tt, (refl, refl, λ s v. tt, tt))

arm_clear : IsClear arm_form
unfolding arm_form
arm_clear = (refl, refl, λ c k. tt, (refl, refl, λ s v k. tt, tt))

resolve_clear : IsClear resolve_form
unfolding resolve_form
resolve_clear = λ v s t us. (refl, tt)

repair_clear : IsClear repair_form
unfolding repair_form
repair_clear = λ v s p. tt

show_clear : IsClear show_form
unfolding show_form
show_clear = (refl, refl, λ s v. tt, (refl, refl, λ c v. tt, (refl, refl, λ c v. tt, tt)))

trim_clear : IsClear trim_form
unfolding trim_form
trim_clear = λ m n. tt

hardlink_clear : IsClear hardlink_form
unfolding hardlink_form
hardlink_clear = λ c v p q. tt

acl_clear : IsClear acl_form
unfolding acl_form
acl_clear = λ s v p n plus minus. tt

clone_clear : IsClear clone_form
unfolding clone_form
clone_clear = λ s v. tt

peek_clear : IsClear peek_form
unfolding peek_form
peek_clear = λ s v n p. tt

unclone_clear : IsClear unclone_form
unfolding unclone_form
unclone_clear = λ s v n. tt

asr_clear : IsClear asr_form
unfolding asr_form
asr_clear = λ v n. (refl, refl, tt, (refl, refl, tt, tt))

heal_clear : IsClear heal_form
unfolding heal_form
heal_clear = λ v p. tt

extra_clear : IsClear extra_forms
unfolding extra_forms
extra_clear = (refl, refl, trim_clear, (refl, refl, hardlink_clear, (refl, refl, acl_clear, (refl, refl, clone_clear, (refl, refl, peek_clear, (refl, refl, unclone_clear, (refl, refl, asr_clear, (refl, refl, heal_clear, tt))))))))

last_clear : IsClear last_forms
unfolding last_forms extra_forms
last_clear = (refl, refl, resolve_clear, (refl, refl, repair_clear, (refl, refl, show_clear, extra_clear)))

actor_clear : IsClear actor_forms
unfolding actor_forms last_forms extra_forms
actor_clear = (refl, refl, hoard_clear, (refl, refl, walk_clear, (refl, refl, send_clear, (refl, refl, deliver_clear, (refl, refl, lose_clear, (refl, refl, breaks_clear, (refl, refl, crash_clear, (refl, refl, recover_clear, (refl, refl, arm_clear, last_clear)))))))))

setup_clear : IsClear setup_forms
unfolding setup_forms actor_forms last_forms extra_forms
setup_clear = (refl, refl, volume_clear, (refl, refl, client_clear, (refl, refl, link_clear, (refl, refl, tick_clear, (refl, refl, list_clear, (refl, refl, drain_clear, (refl, refl, refresh_clear, (refl, refl, giveup_clear, actor_clear))))))))

pub script_clear : IsClear script
unfolding script setup_forms actor_forms last_forms extra_forms
script_clear = (refl, refl, create_clear, (refl, refl, mkdir_clear, (refl, refl, symlink_clear, (refl, refl, store_clear, (refl, refl, setattr_clear, (refl, refl, remove_clear, (refl, refl, rmdir_clear, (refl, refl, rename_clear, (refl, refl, read_clear, setup_clear)))))))))
