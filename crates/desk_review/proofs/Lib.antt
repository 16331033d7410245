mod Reviewed
