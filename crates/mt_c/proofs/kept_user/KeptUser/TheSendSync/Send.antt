use Rattle.mt_c.proofs.Prelude.{exits_of, shape, fields, to, IsSend, AllSend, owning_send, struct_send, sendable, quiet}
use Rattle.mt_c.specs.contracts.user.User as user
use Rattle.mt_c.specs.contracts.kept_user.KeptUser.{the_row, the_type}
use Rattle.mt_c.proofs.Crossing.{kept_keyless, user_sent}

pub send : IsSend the_row
send =
    let all : AllSend (fields the_type) = (search sendable, tt) in
    owning_send the_type all (λ d. kept_keyless user.the_row user_sent d.at d.value) (λ k. quiet (to the_type) (exits_of k (fields the_type)) ((struct_send (shape the_type) all).leaving k))
