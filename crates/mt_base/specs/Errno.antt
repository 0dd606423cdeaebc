-- The error numbers of refused calls.
-- Source: the kernel's include/uapi/asm-generic/errno-base.h: ENOMEM, EBUSY, EEXIST and EINVAL.
use Rattle.std.specs.Prelude.{ℕ, Option, Some, None}
use Rattle.mt_base.specs.declared.replies.Reply.{Reply}
use Rattle.mt_base.specs.declared.replies.Reply.TheVariants as reply

abbrev pub errno_of : Reply → Option ℕ
errno_of (reply.NoNodes shortage) = Some 12
errno_of reply.Busy = Some 16
errno_of reply.Exists = Some 17
errno_of reply.Invalid = Some 22
errno_of reply.Ok = None
errno_of (reply.Over entry) = None
errno_of (reply.Start start) = None
errno_of (reply.Was range) = None
errno_of reply.None = None
