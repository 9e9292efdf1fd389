-- What a queue in memory stands for. Assumes nothing.
use Rattle.arrays.specs.Items.{items}
use Rattle.allocation.specs.Memory.{wheel_of}
use Rattle.wheel_demo.specs.Queues.{Standing}
use Rattle.wheel_demo.specs.declared.queues.Queue.{Queue}
use Rattle.allocation.specs.declared.dealings.Dealing.{Ghosts}

abbrev pub standing : {D : Type 0} {d : Ghosts D} → Queue D d → Standing
standing q = record { claims = items q.claims; wheel = wheel_of q.wheel }
