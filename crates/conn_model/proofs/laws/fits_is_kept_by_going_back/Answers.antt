use Rattle.conn_model.proofs.Fits.{rollback_to_fits}
use Rattle.conn_model.proofs.laws.fits_is_kept_by_going_back.Goals as goal

pub returns : goal.returns
returns c = rollback_to_fits
