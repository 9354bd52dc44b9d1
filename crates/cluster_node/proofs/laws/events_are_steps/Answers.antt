use Rattle.cluster_node.proofs.MemberStepping.{checkpoint_steps, install_steps, receive_steps}
use Rattle.cluster_node.proofs.Stepping.{batch_steps, bytes_step, connect_steps, hang_up_steps}
use Rattle.cluster_node.proofs.Ticking.{clock_steps, start_stands, tick_steps}
use Rattle.cluster_node.proofs.laws.events_are_steps.Goals as goal

pub returns-clause-bytes : goal.returns-clause-bytes
returns-clause-bytes c = bytes_step

pub returns-clause-connect : goal.returns-clause-connect
returns-clause-connect c = connect_steps

pub returns-clause-hang_up : goal.returns-clause-hang_up
returns-clause-hang_up c = hang_up_steps

pub returns-clause-batch : goal.returns-clause-batch
returns-clause-batch c = batch_steps

pub returns-clause-receive : goal.returns-clause-receive
returns-clause-receive c = receive_steps

pub returns-clause-install : goal.returns-clause-install
returns-clause-install c = install_steps

pub returns-clause-checkpoint : goal.returns-clause-checkpoint
returns-clause-checkpoint c = checkpoint_steps

pub returns-clause-start : goal.returns-clause-start
returns-clause-start c = start_stands

pub returns-clause-tick : goal.returns-clause-tick
returns-clause-tick c = tick_steps

pub returns-clause-clock : goal.returns-clause-clock
returns-clause-clock c = clock_steps
