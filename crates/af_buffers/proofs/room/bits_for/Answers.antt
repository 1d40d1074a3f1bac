use Rattle.std.proofs.Common.{arith}
use Rattle.af_buffers.proofs.HorizonLemmas.{room_of}
use Rattle.af_buffers.proofs.room.bits_for.Goals as goal

pub returns-in-0-to-32768-clause-room : goal.returns-in-0-to-32768-clause-room
returns-in-0-to-32768-clause-room c = room_of c.args.samples 15 (omega arith) (omega arith) (omega arith) (omega arith)

pub returns-in-32769-to-65536-clause-room : goal.returns-in-32769-to-65536-clause-room
returns-in-32769-to-65536-clause-room c = room_of c.args.samples 16 (omega arith) (omega arith) (omega arith) (omega arith)

pub returns-in-65537-to-131072-clause-room : goal.returns-in-65537-to-131072-clause-room
returns-in-65537-to-131072-clause-room c = room_of c.args.samples 17 (omega arith) (omega arith) (omega arith) (omega arith)

pub returns-in-131073-to-262144-clause-room : goal.returns-in-131073-to-262144-clause-room
returns-in-131073-to-262144-clause-room c = room_of c.args.samples 18 (omega arith) (omega arith) (omega arith) (omega arith)

pub returns-in_default-clause-room : goal.returns-in_default-clause-room
returns-in_default-clause-room c = room_of c.args.samples 19 (omega arith) (omega arith) (omega arith) (omega arith)
